-- Signed numbers at 64 bits, for code that stays far inside the range: differences, and the two arms of a sign extension.
-- Assumes nothing.
use mathlib.Core.Path.{◌≡◌, ◌∙◌}
use mathlib.Core.Bool.{Bool, true, false, cond}
use Prim.Native.Nat.{ℕ, zero, suc, ◌+◌, ◌-◌, ◌*◌, ◌^◌, ◌%◌, ◌<◌, ◌≤◌}
use native.Mathlib.Omega.{arith}
use lib.Dec.{ltb}
use lib.Pow.{pow_mono, shl_exact}
use lib.Dec.{lit<}
use native.Mathlib.Nat.{one-mul}
use lib.IntN.{pos, negsuc, nat_abs, ◌-ℤ◌}
use lib.Signed.{mag}
use mir.Syntax.{w64}
use mir.Val.{SFits, to_z, of_z}
use mir.Facts.{to_z_pos}
use borrow.Author.Tests.{lt-ltb, le-ltb, ltb-true, ltb-false}
use Rattle.tokens.specs.Bytes.{signed_of}
use mir.ValLaws.{to_z-of_z}
use Rattle.numbers.proofs.Cond.{either}

mag_either : (t : Bool) (x y k : ℕ) → x < k → y < k → mag (cond t (negsuc x) (pos y)) < k
mag_either true x y k hx hy = hx
mag_either false x y k hx hy = hy

-- a difference of two natural numbers below k is below k in size
pub mag_diff : (a b k : ℕ) → a < k → b < k → mag (pos a -ℤ pos b) < k
mag_diff a zero k ha hb = omega arith
mag_diff a (suc b) k ha hb = mag_either (ltb a (suc b)) (suc b - suc a) (a - suc b) k (omega arith) (omega arith)

abs_either : (t : Bool) (x y k : ℕ) → suc x ≤ k → y ≤ k → nat_abs (cond t (negsuc x) (pos y)) ≤ k
abs_either true x y k hx hy = hx
abs_either false x y k hx hy = hy

-- and of two numbers up to k is at most k in size
pub abs_diff_le : (a b k : ℕ) → a ≤ k → b ≤ k → nat_abs (pos a -ℤ pos b) ≤ k
abs_diff_le a zero k ha hb = omega arith
abs_diff_le a (suc b) k ha hb = abs_either (ltb a (suc b)) (suc b - suc a) (a - suc b) k (omega arith) (omega arith)

pub sfits_diff : (a b : ℕ) → a < 2 ^ 63 → b < 2 ^ 63 → SFits w64 (pos a -ℤ pos b)
sfits_diff a b ha hb = record { sfits = mag_diff a b (2 ^ 63) ha hb }

-- the code's difference of two numbers that were cast from u64 is their difference in ℤ
pub diff_to_z : (a b : ℕ) → a < 2 ^ 63 → b < 2 ^ 63 → to_z w64 a -ℤ to_z w64 b ≡ pos a -ℤ pos b
diff_to_z a b ha hb = rw (to_z_pos w64 {n = a} ha, to_z_pos w64 {n = b} hb)

-- 1 << 8n, for n up to 4
pub full : (n : ℕ) → n ≤ 4 → 1 * 2 ^ (8 * n) % 2 ^ 64 ≡ 2 ^ (8 * n)
full n h = shl_exact 1 (8 * n) 64 (lit< tt) (omega arith) ∙ one-mul (2 ^ (8 * n))

pub full_le : (n : ℕ) → n ≤ 4 → 2 ^ (8 * n) ≤ 2 ^ 32
full_le n h = pow_mono {j = 32} (omega arith)

-- the two arms of a sign extension, as the code computes them
module _ (n v : ℕ) (hn : n ≤ 4) (hv : v < 2 ^ (8 * n)) where
  pub arm_fits : SFits w64 (to_z w64 v -ℤ to_z w64 (1 * 2 ^ (8 * n) % 2 ^ 64))
  arm_fits =
      let h = full_le n hn in
      rw (full n hn, diff_to_z v (2 ^ (8 * n)) (omega arith) (omega arith)) (sfits_diff v (2 ^ (8 * n)) (omega arith) (omega arith))

  pub arm_high : 2 ^ (8 * n) ≤ v + v → to_z w64 (of_z w64 (to_z w64 v -ℤ to_z w64 (1 * 2 ^ (8 * n) % 2 ^ 64))) ≡ signed_of n v
  unfolding signed_of
  arm_high g =
      let h = full_le n hn in
      to_z-of_z w64 _ arm_fits ∙
      rw (full n hn, diff_to_z v (2 ^ (8 * n)) (omega arith) (omega arith), le-ltb (v * 2) (2 ^ (8 * n)) (omega arith))

  pub arm_low : v + v < 2 ^ (8 * n) → to_z w64 v ≡ signed_of n v
  unfolding signed_of
  arm_low g =
      let h = full_le n hn in
      to_z_pos w64 {n = v} (omega arith) ∙ rw (lt-ltb (v * 2) (2 ^ (8 * n)) (omega arith))

-- a - b for a below b is b - a in size
pub abs_diff : (a b : ℕ) → a < b → nat_abs (pos a -ℤ pos b) ≡ b - a
abs_diff a zero h = absurd (omega arith)
abs_diff a (suc b) h = rw (lt-ltb a (suc b) h) (omega arith)

-- an integer of up to four bytes is at most 2^31 in size
pub signed_bound : (n v : ℕ) → n ≤ 4 → v < 2 ^ (8 * n) → nat_abs (signed_of n v) ≤ 2 ^ 31
unfolding signed_of
signed_bound n v hn hv =
    let h = full_le n hn in
    either (λ z. nat_abs z ≤ 2 ^ 31) (ltb (v * 2) (2 ^ (8 * n))) (pos v) (pos v -ℤ pos (2 ^ (8 * n)))
    (λ e. omega (arith, ltb-true (v * 2) (2 ^ (8 * n)) e))
    (λ e. rw (abs_diff v (2 ^ (8 * n)) hv) (omega (arith, ltb-false (v * 2) (2 ^ (8 * n)) e)))
