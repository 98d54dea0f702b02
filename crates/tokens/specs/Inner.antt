-- What the reader keeps of a sequence's data, for the contracts of its inner functions; that this is enough to judge the data is in
-- proofs/Judged.antt. The reader never holds the joined data themselves. Assumes nothing.
use Rattle.std.specs.Prelude.{ℕ, ◌+◌, ◌-◌, ◌*◌, ◌/◌, ◌%◌, ◌^◌, ◌<◌, ◌≤◌, List, cond, ◌&&◌, ◌||◌, leb, eqb, length, get_or, take, pos, Result, Ok, Err}
use Rattle.numbers.specs.Fraction.{Answer, ratio_of}
use Rattle.tokens.specs.declared.Read.{Read}
use Rattle.tokens.specs.declared.Read.TheVariants.{Identifier, String, Comment}
use Rattle.tokens.specs.declared.Refusal.TheVariants.{CutOff, TypeNotRead, NothingContinued}
use Rattle.tokens.specs.declared.Refused.{Refused}
use Rattle.tokens.specs.Refusal.{refusal_at}
use Rattle.tokens.specs.declared.Rule.{Rule}
use Rattle.tokens.specs.declared.Rule.TheVariants.{Anything, Plain, Named}
use Rattle.tokens.specs.declared.Summary.{Summary}
use Rattle.tokens.specs.declared.Gathered.{Gathered}
use Rattle.tokens.specs.Format.{string_type, integer_type, rational_type, identifier_type, comment_type, continued_type, longest_name}
use Rattle.tokens.specs.Bytes.{value_after, value_of, signed_of}
use Rattle.tokens.specs.Text.{every, is_letter}
use Rattle.tokens.specs.Joined.{Joined, whole, cut_at}
use Rattle.tokens.specs.Token.{number_read, integer_size, rational_size, ruled}

-- the rule for the bytes of a sequence of type k
unfoldable pub rule_of : ℕ → Rule
rule_of k = cond (eqb k string_type) Plain (cond (eqb k identifier_type) Named Anything)

-- how many of its first bytes have a value that matters
unfoldable pub room_of : ℕ → ℕ
room_of k = cond (eqb k integer_type || eqb k rational_type) 8 0

-- what is kept of the data d of a sequence of type k
unfoldable pub summary_of : ℕ → List ℕ → Summary
summary_of k d = record { len = length d; first = get_or d 0 0; value = value_of (take (room_of k) d); good = every (rule_of k) d }

-- the same with the data e joined on
unfoldable pub added : ℕ → Summary → List ℕ → Summary
added k g e = record {
  len = g.len + length e;
  first = cond (eqb g.len 0) (get_or e 0 0) g.first;
  value = value_after g.value (take (room_of k - g.len) e);
  good = g.good && every (rule_of k) e;
}

-- the value of up to eight bytes fits those bytes
abbrev pub Fitting : Summary → Type 0
Fitting g = g.len ≤ 8 → g.value < 2 ^ (8 * g.len)

abbrev pub gathered : Summary → ℕ → Gathered
gathered g n = record { sum = g; next = n }

unfoldable pub gathered_of : ℕ → Joined → Result Gathered Refused
gathered_of k (whole d next) = Ok (gathered (summary_of k d) next)
gathered_of k (cut_at place) = Err (refusal_at CutOff place)

abbrev pub FittingSum : Result Gathered Refused → Type 0
FittingSum (Ok p) = Fitting p.sum
FittingSum (Err w) = Unit

-- the rational of value v in two halves of h bytes
unfoldable pub rational_by : ℕ → ℕ → Answer
rational_by h v = ratio_of (signed_of h (v / 2 ^ (8 * h))) (signed_of h (v % 2 ^ (8 * h)))

-- what is kept of the data, judged by the type
unfoldable pub judged_by : ℕ → ℕ → Summary → ℕ → Result Read Refused
judged_by k at g next =
    cond (eqb k string_type) (ruled at g.good (Ok (String g.len next)))
    (cond (eqb k integer_type) (ruled at (integer_size g.len) (number_read at next (ratio_of (signed_of g.len g.value) (pos 1))))
    (cond (eqb k rational_type) (ruled at (rational_size g.len) (number_read at next (rational_by (g.len / 2) g.value)))
    (cond (eqb k identifier_type) (ruled at (leb 1 g.len && (leb g.len longest_name && (is_letter g.first && g.good))) (Ok (Identifier g.len next)))
    (cond (eqb k comment_type) (Ok (Comment next))
    (cond (eqb k continued_type) (Err (refusal_at NothingContinued at))
    (Err (refusal_at TypeNotRead at)))))))
