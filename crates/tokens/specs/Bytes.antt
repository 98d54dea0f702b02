-- The value of bytes, high byte first, and its reading in two's complement (01, Tokens: "two's complement, high byte first").
-- Assumes nothing.
use Rattle.std.specs.Prelude.{ℕ, ◌+◌, ◌*◌, ◌^◌, List, [], ◌∷◌, cond, ltb, ℤ, pos, ◌-ℤ◌}

-- the value of the bytes bs, set after what was read before them
unfoldable pub value_after : ℕ → List ℕ → ℕ
value_after v [] = v
value_after v (b ∷ bs) = value_after (v * 256 + b) bs

abbrev pub value_of : List ℕ → ℕ
value_of bs = value_after 0 bs

-- n bytes of value v in two's complement: v where the top bit is 0, v - 2^(8n) where it is 1
unfoldable pub signed_of : ℕ → ℕ → ℤ
signed_of n v = cond (ltb (v * 2) (2 ^ (8 * n))) (pos v) (pos v -ℤ pos (2 ^ (8 * n)))
