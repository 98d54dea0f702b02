-- What a number is (01, Tokens: "a number is a reduced fraction, numerator -2147483647 to 2147483647, denominator 1 to 2147483647").
-- In order: the limits; a quotient of two whole numbers in lowest terms; what is answered for it. Assumes nothing.
use Rattle.std.specs.Prelude.{ℕ, ◌/◌, Bool, cond, ◌&&◌, leb, eqb, ℤ, pos, nat_abs, Result, Ok, Err}
use Rattle.std.specs.Int.Signed.{quot_z}
use Rattle.numbers.specs.declared.Number.{Number}
use Rattle.numbers.specs.declared.NoNumber.{NoNumber}
use Rattle.numbers.specs.declared.NoNumber.TheVariants.{TooLarge, ByZero}
use Rattle.numbers.specs.Gcd.{gcd_of}
use Rattle.numbers.specs.Whole.{signed_by}

-- the largest numerator in size, and the largest denominator
abbrev pub most : ℕ
most = 2147483647

-- what an operation on numbers answers
abbrev pub Answer : Type 0
Answer = Result Number NoNumber

-- n / d is held against the limits
unfoldable pub limited : ℤ → ℕ → Answer
limited n d = cond (leb (nat_abs n) most && leb d most) (Ok (record { num = n; den = d })) (Err TooLarge)

-- n / d: "reduced, with a positive denominator, and only then held against the limits"; a denominator 0 is refused
unfoldable pub ratio_of : ℤ → ℤ → Answer
ratio_of n d =
    let g = gcd_of (nat_abs n) (nat_abs d) in
    cond (eqb (nat_abs d) 0) (Err ByZero) (limited (quot_z (signed_by n d) (pos g)) (nat_abs d / g))

-- a numerator of size n over d is a number as it stands: inside the limits and in lowest terms
unfoldable pub is_fraction : ℕ → ℕ → Bool
is_fraction n d = leb n most && (leb 1 d && (leb d most && eqb (gcd_of n d) 1))

abbrev pub is_number : Number → Bool
is_number a = is_fraction (nat_abs a.num) a.den
