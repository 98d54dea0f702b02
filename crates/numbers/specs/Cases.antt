-- Worked values of the operations: what is computed, beside what it is. Assumes nothing.
use Rattle.std.specs.Prelude.{Ok, Err}
use Rattle.std.specs.Prelude.{ℕ, List, [], ◌∷◌, pos, neg_ℤ}
use Rattle.numbers.specs.declared.Number.{Number}
use Rattle.numbers.specs.Fraction.{Answer}
use Rattle.numbers.specs.declared.NoNumber.TheVariants.{TooLarge, ByZero}
use Rattle.numbers.specs.Fraction.{ratio_of}
use Rattle.numbers.specs.Arith.{sum_of, quotient_of, floor_of, ceiling_of, trunc_of, round_of, mod_of, rem_of}

-- n / d and -n / d as they stand
abbrev fraction : ℕ → ℕ → Number
fraction n d = record { num = pos n; den = d }

abbrev minus : ℕ → ℕ → Number
minus n d = record { num = neg_ℤ (pos n); den = d }

pub record Case : Type 0 where
  pub computed : Answer
  pub answer : Answer

abbrev row : Answer → Answer → Case
row r a = record { computed = r; answer = a }

abbrev pub cases : List Case
cases =
    row (trunc_of (fraction 7 2)) (Ok (fraction 3 1))
    ∷ row (trunc_of (minus 7 2)) (Ok (minus 3 1))
    ∷ row (floor_of (minus 7 2)) (Ok (minus 4 1))
    ∷ row (ceiling_of (minus 7 2)) (Ok (minus 3 1))
    ∷ row (round_of (minus 7 2)) (Ok (minus 3 1))
    ∷ row (round_of (fraction 2147483647 1)) (Ok (fraction 2147483647 1))
    ∷ row (round_of (fraction 1 2147483647)) (Ok (fraction 0 1))
    ∷ row (sum_of (fraction 2147483647 1) (fraction 1 1)) (Err TooLarge)
    ∷ row (sum_of (fraction 1 3) (fraction 1 6)) (Ok (fraction 1 2))
    ∷ row (mod_of (fraction 7 1) (minus 2 1)) (Ok (minus 1 1))
    ∷ row (rem_of (minus 7 1) (fraction 2 1)) (Ok (minus 1 1))
    ∷ row (quotient_of (fraction 1 1) (fraction 0 1)) (Err ByZero)
    ∷ row (ratio_of (pos 6) (neg_ℤ (pos 4))) (Ok (minus 3 2))
    ∷ []
