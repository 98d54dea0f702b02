-- What the answered quotients are. In order: every whole number has a sign and a size; of a quotient that is answered, that it is
-- a number and that it is n / d; a number is the quotient of its parts; an operation's answer is a quotient, or none. Assumes nothing.
use Rattle.std.specs.Prelude.{Ok, Err}
use mathlib.Core.Path.{◌≡◌, refl, sym, ap, ◌∙◌}
use mathlib.Core.Bool.{Bool, true, false, xor, cond, ◌&&◌}
use mathlib.Core.Logic.{⊎_elim}
use Prim.Native.Nat.{ℕ, zero, suc, ◌*◌, ◌/◌, ◌<◌, ◌≤◌}
use native.Mathlib.Nat.{eq-zero-or-pos, div-one, zero-mul, mul_assoc, mul_right_comm}
use native.Mathlib.Omega.{arith}
use lib.Dec.{leb, eqb}
use lib.IntN.{ℤ, pos, negsuc, nat_abs, ◌-ℤ◌, ◌*ℤ◌}
use lib.Signed.{quot_z}
use borrow.Author.Tests.{eq-eqb, ne_eqb, le-leb, leb-true, eqb-true}
use Rattle.numbers.specs.declared.Number.{Number}
use Rattle.numbers.specs.declared.NoNumber.TheVariants.{TooLarge, ByZero}
use Rattle.numbers.specs.Gcd.{gcd_of}
use Rattle.numbers.specs.Whole.{signed, signed_by}
use Rattle.numbers.specs.Fraction.{most, limited, ratio_of, is_fraction, is_number}
use Rattle.numbers.specs.Arith.{over, common, whole_from, less_times}
use Rattle.numbers.proofs.Cond.{both}
use Rattle.numbers.proofs.Divisor.{left_exact, right_exact, lowest_terms}
use Rattle.numbers.proofs.Signs.{abs_signed, signed_mul, unlike_last}
use Rattle.numbers.proofs.Limits.{ratio_by_zero, ratio_signed}

below : ℤ → Bool
below (pos n) = false
below (negsuc n) = true

signed_is : (z : ℤ) → z ≡ signed (below z) (nat_abs z)
unfolding signed below
signed_is (pos n) = refl
signed_is (negsuc n) = refl

kept : (t : Bool) (x a : Number) → cond t (Ok x) (Err TooLarge) ≡ Ok a → (t ≡ true) × (x ≡ a)
kept true x a e = (refl, cc)
kept false x a e = absurd (let z : ◌≡◌ {A = ℕ} 0 1 = cc in omega arith)

within : (z : ℤ) (d : ℕ) (a : Number) → limited z d ≡ Ok a → (nat_abs z ≤ most) × (d ≤ most) × (record { num = z; den = d } ≡ a)
unfolding limited
within z d a e =
    let k = kept (leb (nat_abs z) most && leb d most) (record { num = z; den = d }) a e in
    let b = both (leb (nat_abs z) most) (leb d most) k.0 in
    (leb-true (nat_abs z) most b.0, leb-true d most b.1, k.1)

above_zero : (d q g : ℕ) → d ≡ q * g → 0 < d → 1 ≤ q
above_zero d zero g e h = absurd (omega (arith, zero-mul g))
above_zero d (suc q) g e h = omega arith

crossed : (n d p q g : ℕ) → n ≡ p * g → d ≡ q * g → p * d ≡ n * q
crossed n d p q g e f = rw (e, f) (sym (mul_assoc p q g) ∙ mul_right_comm p q g)

-- a quotient that is answered, by signs and sizes
module _ (s t : Bool) (n d : ℕ) (a : Number) (e : ratio_of (signed s n) (signed t d) ≡ Ok a) where
  not_zero : 0 < d
  not_zero = ⊎_elim (λ z. absurd (let i = ratio_by_zero s t n d z in let z : ◌≡◌ {A = ℕ} 0 1 = cc in omega arith)) (λ p. p) (eq-zero-or-pos d)

  parts : (nat_abs (signed (xor s t) (n / gcd_of n d)) ≤ most) × (d / gcd_of n d ≤ most) × (record { num = signed (xor s t) (n / gcd_of n d); den = d / gcd_of n d } ≡ a)
  parts = within _ _ a (ratio_signed s t n d not_zero ∙ e)

  den_pos : 1 ≤ d / gcd_of n d
  den_pos = above_zero d _ (gcd_of n d) (right_exact n d not_zero) not_zero

  signed_number : is_number a ≡ true
  unfolding is_fraction
  signed_number = rw (← parts.2, le-leb _ most parts.0, le-leb 1 _ den_pos, le-leb _ most parts.1, abs_signed (xor s t) (n / gcd_of n d), eq-eqb _ 1 (lowest_terms n d not_zero))

  signed_exact : a.num *ℤ signed t d ≡ signed s n *ℤ pos a.den
  unfolding signed
  signed_exact =
      let p = n / gcd_of n d in
      let q = d / gcd_of n d in
      rw (← parts.2) (sym (signed_mul (xor s t) t p d) ∙ rw (unlike_last s t, crossed n d p q (gcd_of n d) (left_exact n d not_zero) (right_exact n d not_zero)) (signed_mul s false n q))

-- any quotient
module _ (n d : ℤ) (a : Number) (e : ratio_of n d ≡ Ok a) where
  signs : ratio_of (signed (below n) (nat_abs n)) (signed (below d) (nat_abs d)) ≡ Ok a
  signs = rw (← signed_is n, ← signed_is d) e

  pub quotient_number : is_number a ≡ true
  quotient_number = signed_number (below n) (below d) (nat_abs n) (nat_abs d) a signs

  pub quotient_exact : a.num *ℤ d ≡ n *ℤ pos a.den
  quotient_exact = rw (← signed_is n, ← signed_is d) at (signed_exact (below n) (below d) (nat_abs n) (nat_abs d) a signs)

quot_one : (z : ℤ) → quot_z z (pos 1) ≡ z
quot_one (pos n) = ap pos (div-one n)
quot_one (negsuc n) = rw (div-one (suc n))

fraction_is : (n d : ℕ) → is_fraction n d ≡ true → (n ≤ most) × (1 ≤ d) × (d ≤ most) × (gcd_of n d ≡ 1)
unfolding is_fraction
fraction_is n d e =
    let m = both (leb n most) (leb 1 d && (leb d most && eqb (gcd_of n d) 1)) e in
    let p = both (leb 1 d) (leb d most && eqb (gcd_of n d) 1) m.1 in
    let q = both (leb d most) (eqb (gcd_of n d) 1) p.1 in
    (leb-true n most m.0, leb-true 1 d p.0, leb-true d most q.0, eqb-true (gcd_of n d) 1 q.1)

pub number_quotient : (a : Number) → is_number a ≡ true → ratio_of a.num (pos a.den) ≡ Ok a
unfolding ratio_of limited signed_by
number_quotient a e =
    let f = fraction_is (nat_abs a.num) a.den e in
    rw (ne_eqb a.den 0 (λ z. omega arith), f.3, quot_one a.num, div-one a.den, le-leb (nat_abs a.num) most f.0, le-leb a.den most f.2)

-- a quotient, or none behind a test
ratio_or_none : (t : Bool) (n d : ℤ) (a : Number) → cond t (Err ByZero) (ratio_of n d) ≡ Ok a → is_number a ≡ true
ratio_or_none true n d a e = absurd (let z : ◌≡◌ {A = ℕ} 0 1 = cc in omega arith)
ratio_or_none false n d a e = quotient_number n d a e

pub whole_number : (a : Number) (z : ℤ) (c : Number) → whole_from a z ≡ Ok c → is_number c ≡ true
unfolding whole_from
whole_number a z = ratio_or_none (eqb a.den 0) z (pos 1)

pub rest_number : (a b : Number) (q : ℤ) (c : Number) → less_times a b q ≡ Ok c → is_number c ≡ true
unfolding less_times
rest_number a b q = ratio_or_none (eqb (nat_abs (over b a)) 0) (over a b -ℤ over b a *ℤ q) (common a b)
