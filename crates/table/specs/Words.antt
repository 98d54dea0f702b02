-- A word in a table of bytes: 32 bits, four bytes, low byte first. The sign of a word is two's complement. Assumes nothing.
use Rattle.std.specs.Prelude.{ℕ, ◌+◌, ◌*◌, ◌/◌, ◌%◌, List, [], ◌∷◌, get_or}

-- the word of four bytes
abbrev pub word_of : ℕ → ℕ → ℕ → ℕ → ℕ
word_of a b c d = a + b * 256 + c * 65536 + d * 16777216

-- the word at byte p
unfoldable pub word_at : List ℕ → ℕ → ℕ
word_at l p = word_of (get_or l p 0) (get_or l (p + 1) 0) (get_or l (p + 2) 0) (get_or l (p + 3) 0)

unfoldable pub word_bytes : ℕ → List ℕ
word_bytes w = (w % 256) ∷ (w / 256 % 256) ∷ (w / 65536 % 256) ∷ (w / 16777216 % 256) ∷ []
