-- The refusals of the whole product by number (01, Outcomes and numbers), and an answer as number and value. Assumes nothing.
use Rattle.std.specs.Prelude.{ℕ, Result, Ok, Err}
use Rattle.tokens.specs.declared.Refusal.{Refusal}
use Rattle.tokens.specs.declared.Refusal.TheVariants.{BadHeader, CutOff, TypeNotRead, BadData, NothingContinued, NotAllowed, AfterEnd, TooDeep, TooManyPages, TooLong, TableTooShort, PreambleUnfinished, NoSuchPage, BadAllowance, NotWritable, NoRoom}
use Rattle.tokens.specs.declared.Refused.{Refused}

abbrev pub number_of : Refusal → ℕ
number_of BadHeader = 1
number_of CutOff = 2
number_of TypeNotRead = 3
number_of BadData = 4
number_of NothingContinued = 5
number_of NotAllowed = 6
number_of AfterEnd = 7
number_of TooDeep = 8
number_of TooManyPages = 9
number_of TooLong = 10
number_of TableTooShort = 11
number_of PreambleUnfinished = 12
number_of NoSuchPage = 13
number_of BadAllowance = 14
number_of NotWritable = 15
number_of NoRoom = 16

-- a refusal at a place
abbrev pub refusal_at : Refusal → ℕ → Refused
refusal_at r p = record { refusal = r; place = p }

-- what a public call answers
abbrev pub Outcome : Type 0
Outcome = Result ℕ Refused

-- the number of an answer: 0 where the call is done
abbrev pub answer_number : Outcome → ℕ
answer_number (Ok value) = 0
answer_number (Err w) = number_of w.refusal

-- what the call answers, or the place of the refusal
abbrev pub answer_value : Outcome → ℕ
answer_value (Ok value) = value
answer_value (Err w) = w.place
