-- The arithmetic of 2.4.9 on fractions, exact: only the result is held against the limits (R13). With a = n / d and b = m / e,
-- a + b = (n e + m d) / (d e), and so on. A number has a denominator of at least 1; of a denominator 0, which no number has,
-- the answer is a division by zero, and that of DIV by it may be 0. In order: the two numerators over the common denominator;
-- sum and difference; product and quotient; negative and size; the four roundings; MOD and REM; the order. Assumes nothing.
use Rattle.std.specs.Prelude.{Err}
use Rattle.std.specs.Prelude.{◌*◌, cond, eqb, ℤ, pos, neg_ℤ, nat_abs, ◌+ℤ◌, ◌-ℤ◌, ◌*ℤ◌}
use Rattle.std.specs.Int.Signed.{lt_z}
use Rattle.numbers.specs.declared.Number.{Number}
use Rattle.numbers.specs.Fraction.{Answer}
use Rattle.numbers.specs.declared.NoNumber.TheVariants.{ByZero}
use Rattle.std.specs.declared.cmp.Ordering.{Ordering}
use Rattle.std.specs.declared.cmp.Ordering.TheVariants.{Less, Equal, Greater}
use Rattle.numbers.specs.Whole.{floor_quotient, trunc_quotient}
use Rattle.numbers.specs.Fraction.{ratio_of}

-- a's numerator where a and b stand over the product of their denominators
abbrev pub over : Number → Number → ℤ
over a b = a.num *ℤ pos b.den

-- that product
abbrev pub common : Number → Number → ℤ
common a b = pos (a.den * b.den)

-- ADD, SUB: "c = a + b", "c = a - b"
unfoldable pub sum_of : Number → Number → Answer
sum_of a b = ratio_of (over a b +ℤ over b a) (common a b)

unfoldable pub difference_of : Number → Number → Answer
difference_of a b = ratio_of (over a b -ℤ over b a) (common a b)

-- MUL, DIV: "c = a × b", "c = a/b; b ≠ 0 is required"
unfoldable pub product_of : Number → Number → Answer
product_of a b = ratio_of (a.num *ℤ b.num) (common a b)

unfoldable pub quotient_of : Number → Number → Answer
quotient_of a b = ratio_of (over a b) (over b a)

-- NEG, ABS: "c = -a", "c = |a|"
unfoldable pub negative_of : Number → Answer
negative_of a = ratio_of (neg_ℤ a.num) (pos a.den)

unfoldable pub size_of : Number → Answer
size_of a = ratio_of (pos (nat_abs a.num)) (pos a.den)

-- the whole number z, made of a
unfoldable pub whole_from : Number → ℤ → Answer
whole_from a z = cond (eqb a.den 0) (Err ByZero) (ratio_of z (pos 1))

-- FLOOR: "the greatest integer ≤ a". CEILING: "the least integer ≥ a", which is minus the floor of -a
unfoldable pub floor_of : Number → Answer
floor_of a = whole_from a (floor_quotient a.num (pos a.den))

unfoldable pub ceiling_of : Number → Answer
ceiling_of a = whole_from a (neg_ℤ (floor_quotient (neg_ℤ a.num) (pos a.den)))

-- TRUNC: "the integer part of a". ROUND: "a 1/2 ADD FLOOR", and n / d + 1 / 2 is (2 n + d) / 2 d
unfoldable pub trunc_of : Number → Answer
trunc_of a = whole_from a (trunc_quotient a.num (pos a.den))

unfoldable pub round_of : Number → Answer
round_of a = whole_from a (floor_quotient (a.num *ℤ pos 2 +ℤ pos a.den) (pos (a.den * 2)))

-- a - b × q, of a whole number q; "b ≠ 0 is required"
unfoldable pub less_times : Number → Number → ℤ → Answer
less_times a b q = cond (eqb (nat_abs (over b a)) 0) (Err ByZero) (ratio_of (over a b -ℤ over b a *ℤ q) (common a b))

-- MOD: "c = a - b × FLOOR(a/b)". REM: "c = a - b × TRUNC(a/b)"; a/b is (n e) / (m d)
unfoldable pub mod_of : Number → Number → Answer
mod_of a b = less_times a b (floor_quotient (over a b) (over b a))

unfoldable pub rem_of : Number → Number → Answer
rem_of a b = less_times a b (trunc_quotient (over a b) (over b a))

-- which of the two is the larger: EQ, GT and GE of 2.4.8 ask this
unfoldable pub order_of : Number → Number → Ordering
order_of a b = cond (lt_z (over a b) (over b a)) Less (cond (lt_z (over b a) (over a b)) Greater Equal)
