-- A whole number in two's complement of k bytes is read back, one proof over k; and the bytes that are chosen for it hold it.
-- Assumes nothing.
use Rattle.std.proofs.Common.{◌≡◌, ℕ, suc, ◌+◌, ◌-◌, ◌*◌, ◌^◌, ◌<◌, ◌≤◌, true, ltb, ℤ, pos, negsuc, ◌+ℤ◌, ◌-ℤ◌, nat_abs, sym, ap, ◌∙◌, arith, pow_pos, pow_mono, pow-add, ltb-false, ltb-true, le-ltb, lt-ltb}
use lib.IntN.{+ℤ-neg_ℤ_cancel}
use lib.Signed.{mag}
use Rattle.tokens.specs.Bytes.{signed_of}
use Rattle.numbers.proofs.Cond.{either}
use Rattle.lists.specs.Written.{complement_of, holds_in, bytes_in, larger}

-- the power of k bytes is twice that of their numbers
double : (k : ℕ) → 1 ≤ k → 2 ^ (8 * k) ≡ 2 ^ (8 * k - 1) * 2
double k h = let e : 8 * k ≡ 8 * k - 1 + 1 = omega arith in ap (λ (n : ℕ). 2 ^ n) e ∙ pow-add 2 (8 * k - 1) 1

pub complement_lt : (k : ℕ) (z : ℤ) → 1 ≤ k → holds_in k z ≡ true → complement_of k z < 2 ^ (8 * k)
unfolding complement_of
complement_lt k (pos n) h t = omega (arith, double k h, ltb-true n (2 ^ (8 * k - 1)) t)
complement_lt k (negsuc n) h t = omega (arith, pow_pos (8 * k))

-- below zero: the value of n bytes, less their power
taken : (n b : ℕ) → suc n ≤ b → pos (b - suc n) -ℤ pos b ≡ negsuc n
taken n b h =
    let e : negsuc n +ℤ pos b ≡ pos (b - suc n) = rw (le-ltb b (suc n) h) in
    ap (λ (z : ℤ). z -ℤ pos b) (sym e) ∙ +ℤ-neg_ℤ_cancel (negsuc n) (pos b)

pub signed_back : (k : ℕ) (z : ℤ) → 1 ≤ k → holds_in k z ≡ true → signed_of k (complement_of k z) ≡ z
unfolding signed_of complement_of
signed_back k (pos n) h t =
    let g = ltb-true n (2 ^ (8 * k - 1)) t in
    rw (lt-ltb (n * 2) (2 ^ (8 * k)) (omega (arith, double k h)))
signed_back k (negsuc n) h t =
    let g = ltb-true n (2 ^ (8 * k - 1)) t in
    let d = double k h in
    rw (le-ltb ((2 ^ (8 * k) - suc n) * 2) (2 ^ (8 * k)) (omega arith)) (taken n (2 ^ (8 * k)) (omega arith))

-- more bytes hold it too
pub holds_wider : (j k : ℕ) (z : ℤ) → j ≤ k → holds_in j z ≡ true → holds_in k z ≡ true
holds_wider j k z h t =
    let p = pow_mono {i = 8 * j - 1} {j = 8 * k - 1} (omega arith) in
    let g = ltb-true (mag z) (2 ^ (8 * j - 1)) t in
    lt-ltb (mag z) (2 ^ (8 * k - 1)) (omega arith)

-- k bytes hold z, and are 1 to 4
pub record Held (z : ℤ) (k : ℕ) : Type 0 where
  pub in_them : holds_in k z ≡ true
  pub some : 1 ≤ k
  pub most : k ≤ 4

mag_le : (z : ℤ) → mag z ≤ nat_abs z
mag_le (pos n) = omega arith
mag_le (negsuc n) = omega arith

pub bytes_in_holds : (z : ℤ) → nat_abs z ≤ 2147483647 → Held z (bytes_in z)
unfolding bytes_in
bytes_in_holds z h =
    let four : holds_in 4 z ≡ true = lt-ltb (mag z) (2 ^ 31) (omega (arith, mag_le z)) in
    either (Held z) (holds_in 1 z) 1 _ (λ e. record { in_them = e; some = omega arith; most = omega arith })
    (λ _. either (Held z) (holds_in 2 z) 2 _ (λ e. record { in_them = e; some = omega arith; most = omega arith })
    (λ _. either (Held z) (holds_in 3 z) 3 4 (λ e. record { in_them = e; some = omega arith; most = omega arith })
    (λ _. record { in_them = four; some = omega arith; most = omega arith })))

larger_bounds : (a b : ℕ) → (a ≤ larger a b) × (b ≤ larger a b) × ((m : ℕ) → a ≤ m → b ≤ m → larger a b ≤ m)
larger_bounds a b =
    either (λ (k : ℕ). (a ≤ k) × (b ≤ k) × ((m : ℕ) → a ≤ m → b ≤ m → k ≤ m)) (ltb a b) b a
    (λ e. let h = ltb-true a b e in (omega arith, omega arith, λ m x y. y))
    (λ e. let h = ltb-false a b e in (omega arith, omega arith, λ m x y. x))

-- the larger of the two numbers of bytes holds both halves
pub larger_holds : (y z : ℤ) (j k : ℕ) → Held y j → Held z k → Held y (larger j k) × Held z (larger j k)
larger_holds y z j k a b =
    let g = larger_bounds j k in
    let m : larger j k ≤ 4 = g.2 4 a.most b.most in (
      record { in_them = holds_wider j (larger j k) y g.0 a.in_them; some = omega arith; most = m },
      record { in_them = holds_wider k (larger j k) z g.1 b.in_them; some = omega arith; most = m },
    )
