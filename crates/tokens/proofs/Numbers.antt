-- A refusal is known by its number: the table of numbers read the other way. Assumes nothing.
use mathlib.Core.Path.{◌≡◌, refl, sym, ap, ◌∙◌}
use Prim.Native.Nat.{ℕ}
use mathlib.Core.Bool.{cond}
use lib.Dec.{eqb}
use Rattle.tokens.specs.declared.Refusal.{Refusal}
use Rattle.tokens.specs.declared.Refusal.TheVariants.{BadHeader, CutOff, TypeNotRead, BadData, NothingContinued, NotAllowed, AfterEnd, TooDeep, TooManyPages, TooLong, TableTooShort, PreambleUnfinished, NoSuchPage, BadAllowance, NotWritable, NoRoom}
use Rattle.tokens.specs.Refusal.{number_of}

refusal_of : ℕ → Refusal
refusal_of n =
    cond (eqb n 1) BadHeader
    (cond (eqb n 2) CutOff
    (cond (eqb n 3) TypeNotRead
    (cond (eqb n 4) BadData
    (cond (eqb n 5) NothingContinued
    (cond (eqb n 6) NotAllowed
    (cond (eqb n 7) AfterEnd
    (cond (eqb n 8) TooDeep
    (cond (eqb n 9) TooManyPages
    (cond (eqb n 10) TooLong
    (cond (eqb n 11) TableTooShort
    (cond (eqb n 12) PreambleUnfinished
    (cond (eqb n 13) NoSuchPage
    (cond (eqb n 14) BadAllowance
    (cond (eqb n 15) NotWritable
    NoRoom))))))))))))))

back : (a : Refusal) → refusal_of (number_of a) ≡ a
unfolding refusal_of
back BadHeader = refl
back CutOff = refl
back TypeNotRead = refl
back BadData = refl
back NothingContinued = refl
back NotAllowed = refl
back AfterEnd = refl
back TooDeep = refl
back TooManyPages = refl
back TooLong = refl
back TableTooShort = refl
back PreambleUnfinished = refl
back NoSuchPage = refl
back BadAllowance = refl
back NotWritable = refl
back NoRoom = refl

pub same_number : (a b : Refusal) → number_of a ≡ number_of b → a ≡ b
same_number a b e = sym (back a) ∙ ap refusal_of e ∙ back b
