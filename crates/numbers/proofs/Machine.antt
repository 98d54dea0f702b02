-- Machine numbers with a sign, which stand in memory as bits (`to_z w (of_z w n)` reads n back). In order: the sign taken off a number,
-- below zero and not; the sign put on; an i32 made an i64. Assumes nothing.
use mathlib.Core.Path.{◌≡◌, refl, sym, ap, ◌∙◌}
use mathlib.Core.Bool.{true, false, true≢false, false≢true}
use Prim.Native.Nat.{ℕ, zero, suc, ◌+◌, ◌^◌, ◌<◌}
use native.Mathlib.Numerals.{add-one}
use native.Mathlib.Omega.{arith}
use lib.IntN.{ℤ, pos, negsuc, neg_ℤ, nat_abs, ◌+ℤ◌, ◌-ℤ◌, neg_ℤ-neg_ℤ, +ℤ_idl}
use lib.Signed.{mag, lt_z}
use borrow.Author.Tests.{le-ltb}
use mir.Syntax.{Width, w32, w64}
use mir.Val.{SFits, to_z, of_z, hbits}
use mir.Facts.{to_z-of_z, to_z_pos}
use Rattle.numbers.specs.Whole.{signed}
use Rattle.numbers.proofs.Signs.{one_up}

-- a machine number below zero, as the code takes its sign off: -(n + 1), and 1 more
neg_fits : {w : Width} (k : ℕ) → k < 2 ^ hbits w → SFits w (neg_ℤ (pos k))
neg_fits zero h = record { sfits = h }
neg_fits (suc k) h = record { sfits = omega arith }

below_is : (z : ℤ) → lt_z z (pos 0) ≡ true → z ≡ negsuc (mag z)
below_is (pos m) e = absurd (false≢true (sym (le-ltb m 0 (omega arith)) ∙ e))
below_is (negsuc m) e = refl

module _ (n : ℤ) (f : SFits w64 n) (below : lt_z (to_z w64 (of_z w64 n)) (pos 0) ≡ true) where
  is : n ≡ negsuc (mag n)
  is = below_is n (rw (to_z-of_z f) at below)

  up : to_z w64 (of_z w64 n) +ℤ pos 1 ≡ neg_ℤ (pos (mag n))
  up = ap (λ z. z +ℤ pos 1) (to_z-of_z f ∙ is) ∙ one_up (mag n)

  pub up_fits : SFits w64 (to_z w64 (of_z w64 n) +ℤ pos 1)
  up_fits = rw up (neg_fits (mag n) f.sfits)

  turned : pos 0 -ℤ to_z w64 (of_z w64 (to_z w64 (of_z w64 n) +ℤ pos 1)) ≡ pos (mag n)
  turned = ap (λ z. pos 0 -ℤ z) (to_z-of_z up_fits ∙ up) ∙ +ℤ_idl (neg_ℤ (neg_ℤ (pos (mag n)))) ∙ neg_ℤ-neg_ℤ (pos (mag n))

  pub turned_fits : SFits w64 (pos 0 -ℤ to_z w64 (of_z w64 (to_z w64 (of_z w64 n) +ℤ pos 1)))
  turned_fits = rw turned (record { sfits = f.sfits })

  pub turned_back : to_z w64 (of_z w64 (pos 0 -ℤ to_z w64 (of_z w64 (to_z w64 (of_z w64 n) +ℤ pos 1)))) ≡ pos (mag n)
  turned_back = to_z-of_z turned_fits ∙ turned

  pub below_signed : signed true (mag n + 1) ≡ n
  unfolding signed
  below_signed = ap (λ k. neg_ℤ (pos k)) (add-one (mag n)) ∙ sym is

  pub below_size : mag n + 1 ≡ nat_abs n
  below_size = add-one (mag n) ∙ ap nat_abs (sym is)

-- one that is not below zero
pub not_below : (z : ℤ) → lt_z z (pos 0) ≡ false → z ≡ pos (nat_abs z)
not_below (pos n) h = refl
not_below (negsuc n) h = absurd (true≢false h)

-- a machine number below zero, as the code puts its sign on: 0 - k
module _ (k : ℕ) (h : k < 2 ^ 31) where
  minus : pos 0 -ℤ to_z w32 k ≡ neg_ℤ (pos k)
  minus = rw (to_z_pos w32 {n = k} h) (+ℤ_idl (neg_ℤ (pos k)))

  pub minus_fits : SFits w32 (pos 0 -ℤ to_z w32 k)
  minus_fits = rw minus (neg_fits k h)

  pub minus_back : to_z w32 (of_z w32 (pos 0 -ℤ to_z w32 k)) ≡ signed true k
  unfolding signed
  minus_back = to_z-of_z minus_fits ∙ minus

-- an i32 made an i64
module _ (z : ℤ) (h : mag z < 2 ^ 31) where
  narrow : to_z w32 (of_z w32 z) ≡ z
  narrow = to_z-of_z {w = w32} (record { sfits = h })

  pub wide_fits : SFits w64 (to_z w32 (of_z w32 z))
  wide_fits = rw narrow (record { sfits = omega arith })

  pub wide_is : to_z w64 (of_z w64 (to_z w32 (of_z w32 z))) ≡ z
  wide_is = to_z-of_z wide_fits ∙ narrow
