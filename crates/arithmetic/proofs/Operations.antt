-- What the tests in the operations decide: of MOD and REM, and of the order; and that their products fit. Assumes nothing.
use Rattle.std.specs.Prelude.{Err}
use mathlib.Core.Path.{◌≡◌}
use mathlib.Core.Bool.{cond}
use Prim.Native.Nat.{ℕ, ◌*◌, ◌^◌, ◌<◌, ◌≤◌}
use native.Mathlib.Nat.{mul-le-mul}
use native.Mathlib.Omega.{arith}
use lib.IntN.{ℤ, nat_abs, ◌-ℤ◌, ◌*ℤ◌}
use lib.Signed.{lt_z}
use borrow.Author.Tests.{eq-eqb, ne_eqb}
use Rattle.numbers.specs.declared.Number.{Number}
use Rattle.numbers.specs.declared.NoNumber.TheVariants.{ByZero}
use Rattle.std.specs.declared.cmp.Ordering.TheVariants.{Less, Equal, Greater}
use Rattle.numbers.specs.Fraction.{ratio_of}
use Rattle.numbers.specs.Arith.{over, common, less_times, order_of}

-- a - b q
pub less_times_zero : (a b : Number) (q : ℤ) → nat_abs (over b a) ≡ 0 → Err ByZero ≡ less_times a b q
unfolding less_times
less_times_zero a b q e = rw (eq-eqb (nat_abs (over b a)) 0 e)

pub less_times_is : (a b : Number) (q : ℤ) → (nat_abs (over b a) ≡ 0 → ⊥) → ratio_of (over a b -ℤ over b a *ℤ q) (common a b) ≡ less_times a b q
unfolding less_times
less_times_is a b q e = rw (ne_eqb (nat_abs (over b a)) 0 e)

pub order_is : (a b : Number) {x y : ℤ} → x ≡ over a b → y ≡ over b a → cond (lt_z x y) Less (cond (lt_z y x) Greater Equal) ≡ order_of a b
unfolding order_of
order_is a b e f = rw (e, f)

-- a numerator times a denominator, and twice that, fit a u64
pub over_lt : (n d : ℕ) → n ≤ 2 ^ 31 → d < 2 ^ 32 → n * d < 2 ^ 63
over_lt n d h k = omega (arith, mul-le-mul {n₁ = n} {m₁ = d} {n₂ = 2 ^ 31} {m₂ = 4294967295} h (omega arith))
