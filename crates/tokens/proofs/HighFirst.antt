-- The value of bytes, high byte first: one byte more, bytes cut in two, the bound. Assumes nothing.
use mathlib.Core.Path.{◌≡◌, refl, sym, ap, ◌∙◌}
use mathlib.Core.List.{List, [], ◌∷◌, ◌++◌}
use Prim.Native.Nat.{ℕ, suc, ◌+◌, ◌*◌, ◌/◌, ◌%◌, ◌^◌, ◌<◌, ◌≤◌}
use native.Mathlib.Nat.{lt_of_lt_of_le, add-zero, zero-add, add-mul, mul_assoc}
use native.Mathlib.Omega.{arith}
use lib.Dec.{lit≤, lit<}
use lib.Arith.{digits_lt}
use lib.Pow.{shl_exact, pow_mono, pow-add, high, low}
use lib.Bits.{bit_or, or_shifted}
use lib.ListN.{length, take, drop, length-drop, take-append-drop}
use lib.Seq.{get_or-drop}
use Rattle.table.proofs.WordLists.{Bytes}
use Rattle.tokens.specs.Bytes.{value_after}

-- one more byte below v, by a shift and an or at 64 bits
pub shl_or : (v b : ℕ) → v < 2 ^ 56 → b < 2 ^ 8 → bit_or (v * 2 ^ 8 % 2 ^ 64) b ≡ v * 256 + b
shl_or v b hv hb = ap (λ (x : ℕ). bit_or x b) (shl_exact 56 8 64 hv (lit≤ tt)) ∙ or_shifted v 8 b hb

-- i bytes and one more
pub grows : (i v b : ℕ) → v < 2 ^ (8 * i) → b < 256 → v * 256 + b < 2 ^ (8 * (i + 1))
grows i v b hv hb =
    let e : 8 * (i + 1) ≡ 8 * i + 8 = omega arith in
    rw (e, pow-add 2 (8 * i) 8) (digits_lt hv hb)

-- what fits i bytes fits more
pub wider : (i j : ℕ) {v : ℕ} → i ≤ j → v < 2 ^ (8 * i) → v < 2 ^ (8 * j)
wider i j h hv = lt_of_lt_of_le hv (pow_mono {i = 8 * i} {j = 8 * j} (omega arith))

pub value_append : (a : ℕ) (d e : List ℕ) → value_after a (d ++ e) ≡ value_after (value_after a d) e
unfolding value_after
value_append a [] e = refl
value_append a (b ∷ d) e = value_append (a * 256 + b) d e

-- bytes after a value a: a moved up by the bytes, and the bytes' own value
value_after_lem : (a : ℕ) (d : List ℕ) → value_after a d ≡ a * 2 ^ (8 * length d) + value_after 0 d
unfolding value_after
value_after_lem a [] = omega arith
value_after_lem a (b ∷ d) =
    let e : 8 * suc (length d) ≡ 8 + 8 * length d = omega arith in
    value_after_lem (a * 256 + b) d ∙ sym (rw (value_after_lem (0 * 256 + b) d, e, pow-add 2 8 (8 * length d)) (regroup a b (2 ^ (8 * length d)) (value_after 0 d)))
  where
    regroup : (a b p w : ℕ) → a * (256 * p) + ((0 * 256 + b) * p + w) ≡ (a * 256 + b) * p + w
    regroup a b p w = rw (zero-add b, add-mul (a * 256) b p, mul_assoc a 256 p) (omega arith)

pub value_lt : (d : List ℕ) (v m : ℕ) → Bytes d → v < 2 ^ (8 * m) → value_after v d < 2 ^ (8 * (m + length d))
unfolding value_after
value_lt [] v m h g = rw (add-zero m) g
value_lt (b ∷ d) v m h g =
    let e : m + suc (length d) ≡ m + 1 + length d = omega arith in
    rw e (value_lt d (v * 256 + b) (m + 1) (λ i. h (suc i)) (grows m v b g (h 0)))

drop_bytes : (h : ℕ) (d : List ℕ) → Bytes d → Bytes (drop h d)
drop_bytes h d f i = rw (get_or-drop h d i 0) (f (h + i))

-- the two halves of 2h bytes
pub halves : (h : ℕ) (d : List ℕ) → length d ≡ h + h → Bytes d → (value_after 0 d / 2 ^ (8 * h) ≡ value_after 0 (take h d)) × (value_after 0 d % 2 ^ (8 * h) ≡ value_after 0 (drop h d))
halves h d l f =
    let n : length (drop h d) ≡ h = rw (length-drop h d) (omega arith) in
    let e : value_after 0 d ≡ value_after 0 (take h d) * 2 ^ (8 * h) + value_after 0 (drop h d) =
    ap (value_after 0) (sym (take-append-drop h d)) ∙ value_append 0 (take h d) (drop h d) ∙ rw n at (value_after_lem (value_after 0 (take h d)) (drop h d)) in
    let k : value_after 0 (drop h d) < 2 ^ (8 * h) = rw (zero-add (length (drop h d)), n) at (value_lt (drop h d) 0 0 (drop_bytes h d f) (lit< tt)) in
    rw e (high (value_after 0 (take h d)) (8 * h) k, low (value_after 0 (take h d)) (8 * h) k)
