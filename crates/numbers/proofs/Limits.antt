-- A quotient in lowest terms and its limits, as the code computes them from signs and sizes. Assumes nothing.
use Rattle.std.specs.Prelude.{Ok, Err}
use mathlib.Core.Path.{◌≡◌}
use mathlib.Core.Bool.{Bool, xor, and-false}
use Prim.Native.Nat.{ℕ, ◌/◌, ◌<◌, ◌≤◌}
use native.Mathlib.Nat.{div-one}
use native.Mathlib.Omega.{arith}
use lib.Dec.{leb}
use lib.IntN.{nat_abs}
use borrow.Author.Tests.{eq-eqb, ne_eqb, le-leb, lt-leb}
use Rattle.numbers.specs.declared.NoNumber.TheVariants.{TooLarge, ByZero}
use Rattle.numbers.specs.Gcd.{gcd_of}
use Rattle.numbers.specs.Whole.{signed}
use Rattle.numbers.specs.Fraction.{most, limited, ratio_of}
use Rattle.numbers.proofs.Divisor.{gcd_one}
use Rattle.numbers.proofs.Signs.{abs_signed, signed_by_lem, signed_quot}

module _ (s : Bool) (n d : ℕ) where
  pub size_over : most < n → Err TooLarge ≡ limited (signed s n) d
  unfolding limited
  size_over h = rw (abs_signed s n, lt-leb n most h)

  pub den_over : most < d → Err TooLarge ≡ limited (signed s n) d
  unfolding limited
  den_over h = rw (lt-leb d most h, and-false (leb (nat_abs (signed s n)) most))

  pub inside : n ≤ most → d ≤ most → Ok (record { num = signed s n; den = d }) ≡ limited (signed s n) d
  unfolding limited
  inside h k = rw (abs_signed s n, le-leb n most h, le-leb d most k)

module _ (s t : Bool) (n d : ℕ) where
  pub ratio_by_zero : d ≡ 0 → Err ByZero ≡ ratio_of (signed s n) (signed t d)
  unfolding ratio_of
  ratio_by_zero h = rw (abs_signed t d, eq-eqb d 0 h)

  pub ratio_signed : 0 < d → limited (signed (xor s t) (n / gcd_of n d)) (d / gcd_of n d) ≡ ratio_of (signed s n) (signed t d)
  unfolding ratio_of
  ratio_signed h = rw (abs_signed s n, abs_signed t d, ne_eqb d 0 (λ e. omega arith), signed_quot, signed_by_lem s t n d h)

-- over 1 nothing is to be reduced
over_one : (s t : Bool) (n : ℕ) → limited (signed (xor s t) n) 1 ≡ ratio_of (signed s n) (signed t 1)
over_one s t n = let r = ratio_signed s t n 1 (omega arith) in rw (gcd_one n, div-one n) at r

pub ratio_whole : (s t : Bool) (n d : ℕ) → d ≡ 1 → limited (signed (xor s t) n) 1 ≡ ratio_of (signed s n) (signed t d)
ratio_whole s t n d h = rw h (over_one s t n)
