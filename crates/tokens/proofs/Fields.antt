-- A byte's low k bits, put eight places up, with a byte below them: one law over k for the 13-bit operator number and the 15 bits of a
-- short number. Assumes nothing.
use mathlib.Core.Path.{◌≡◌, ap, ◌∙◌}
use Prim.Native.Nat.{ℕ, ◌+◌, ◌-◌, ◌*◌, ◌^◌, ◌%◌, ◌<◌, ◌≤◌}
use native.Mathlib.Nat.{lt_of_lt_of_le}
use lib.Dec.{lit≤}
use lib.Pow.{shl_exact, pow_mono}
use lib.Bits.{bit_and, bit_or, and_mask, mask_lt, or_shifted}

pub mask_byte : (k a : ℕ) → k ≤ 8 → bit_and a (2 ^ k - 1) < 2 ^ 8
mask_byte k a h = lt_of_lt_of_le (mask_lt a k) (pow_mono h)

pub joined : (k a b : ℕ) → k ≤ 8 → b < 2 ^ 8 → bit_or (bit_and a (2 ^ k - 1) * 2 ^ 8 % 2 ^ 16) b ≡ a % 2 ^ k * 2 ^ 8 + b
joined k a b h hb =
    ap (λ (x : ℕ). bit_or x b) (shl_exact 8 8 16 (mask_byte k a h) (lit≤ tt)) ∙
    or_shifted (bit_and a (2 ^ k - 1)) 8 b hb ∙
    ap (λ (x : ℕ). x * 2 ^ 8 + b) (and_mask a k)
