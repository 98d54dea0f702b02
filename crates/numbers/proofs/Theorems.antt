-- What a reader needs to know of the definitions beyond the functions' contracts. In order: the greatest common divisor; rounding
-- down; numbers and quotients; the operations' answers; worked values. Assumes nothing.
use Rattle.std.specs.Prelude.{Ok}
use mathlib.Core.Path.{◌≡◌, refl}
use mathlib.Core.Bool.{true}
use Prim.Native.Nat.{ℕ, ◌*◌, ◌<◌}
use lib.IntN.{ℤ, pos, ◌+ℤ◌, ◌*ℤ◌}
use lib.Signed.{◌≤ℤ◌, ◌<ℤ◌}
use Rattle.numbers.specs.declared.Number.{Number}
use Rattle.numbers.specs.Fraction.{Answer}
use Rattle.numbers.specs.Each.{Each, ◌&◌}
use Rattle.numbers.specs.Gcd.{gcd_turns, gcd_of}
use Rattle.numbers.specs.Whole.{signed_by, floor_by, floor_quotient, trunc_quotient}
use Rattle.numbers.specs.Fraction.{limited, ratio_of, is_number}
use Rattle.numbers.specs.Arith.{sum_of, difference_of, product_of, quotient_of, negative_of, size_of, whole_from, floor_of, ceiling_of, trunc_of, round_of, less_times, mod_of, rem_of}
use Rattle.numbers.specs.Cases.{Case, cases}
use Rattle.numbers.proofs.Divisor.{divides_left, divides_right, divides_gcd}
use Rattle.numbers.proofs.Rounding.{floor_below, floor_greatest}
use Rattle.numbers.proofs.Reduced.{quotient_number, quotient_exact, number_quotient, whole_number, rest_number}

-- the greatest common divisor divides the first number,
pub gcd_divides_left : (a b : ℕ) → (q : ℕ) × (a ≡ q * gcd_of a b)
gcd_divides_left a b = divides_left a b

-- and the second,
pub gcd_divides_right : (a b : ℕ) → (q : ℕ) × (b ≡ q * gcd_of a b)
gcd_divides_right a b = divides_right a b

-- and every number that divides both divides it
pub gcd_greatest : (a b d : ℕ) → ((q : ℕ) × (a ≡ q * d)) → ((q : ℕ) × (b ≡ q * d)) → (q : ℕ) × (gcd_of a b ≡ q * d)
gcd_greatest a b d x y = divides_gcd a b d x y

-- floor_by n d is the greatest whole number that is not above n / d
pub floor_is : (n : ℤ) (d : ℕ) → 0 < d → ((floor_by n d *ℤ pos d) ≤ℤ n) × (n <ℤ ((floor_by n d +ℤ pos 1) *ℤ pos d))
floor_is n d h = (floor_below n d h, floor_greatest n d h)

-- a number is the quotient of its numerator and its denominator
pub ratio_number : (a : Number) → is_number a ≡ true → ratio_of a.num (pos a.den) ≡ Ok a
ratio_number a e = number_quotient a e

-- a quotient that is answered is a number: in lowest terms and inside the limits
pub number_ratio : (n d : ℤ) (a : Number) → ratio_of n d ≡ Ok a → is_number a ≡ true
number_ratio n d a e = quotient_number n d a e

-- and it is n / d
pub ratio_exact : (n d : ℤ) (a : Number) → ratio_of n d ≡ Ok a → a.num *ℤ d ≡ n *ℤ pos a.den
ratio_exact n d a e = quotient_exact n d a e

-- a number that is answered is a number of document 01
abbrev pub AnswersNumber : Answer → Type 0
AnswersNumber r = (c : Number) → r ≡ Ok c → is_number c ≡ true

-- every operation answers with such a number, or with none
pub answers_number : (a b : Number) →
    AnswersNumber (sum_of a b) × AnswersNumber (difference_of a b) × AnswersNumber (product_of a b) × AnswersNumber (quotient_of a b)
    × AnswersNumber (mod_of a b) × AnswersNumber (rem_of a b) × AnswersNumber (negative_of a) × AnswersNumber (size_of a)
    × AnswersNumber (floor_of a) × AnswersNumber (ceiling_of a) × AnswersNumber (trunc_of a) × AnswersNumber (round_of a)
unfolding sum_of difference_of product_of quotient_of mod_of rem_of negative_of size_of floor_of ceiling_of trunc_of round_of
answers_number a b =
    let r = number_ratio in
    let w = whole_number a in
    (r _ _, r _ _, r _ _, r _ _, rest_number a b _, rest_number a b _, r _ _, r _ _, w _, w _, w _, w _)

-- the worked values hold
pub cases_hold : Each (λ (c : Case). c.computed ≡ c.answer) cases
unfolding sum_of quotient_of whole_from floor_of ceiling_of trunc_of round_of less_times mod_of rem_of ratio_of limited gcd_of gcd_turns signed_by floor_by floor_quotient trunc_quotient
cases_hold =
    refl & refl & refl & refl & refl & refl & refl & refl & refl & refl
    & refl & refl & refl & tt
