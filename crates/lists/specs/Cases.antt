-- The written forms that 01 gives, and their neighbours, as one table: a token, and its bytes. proofs/Theorems.antt proves them all.
-- Assumes nothing.
use Rattle.std.specs.Prelude.{ℕ, List, [], ◌∷◌, ℤ, pos, neg_ℤ}
use Rattle.items.specs.Tokens.{Token, number, identifier, string, operator}

pub record Case : Type 0 where
  pub token : Token
  pub bytes : List ℕ

is : Token → List ℕ → Case
is t b = record { token = t; bytes = b }

ratio : ℤ → ℕ → Token
ratio n d = number (record { num = n; den = d })

unfoldable pub cases : List Case
unfolding is ratio
cases =
    is (ratio (neg_ℤ (pos 4000)) 1) (0x00 ∷ 0x00 ∷ [])
    ∷ is (ratio (pos 28767) 1) (0x7F ∷ 0xFF ∷ [])
    ∷ is (ratio (pos 28768) 1) (0xC2 ∷ 2 ∷ 0x70 ∷ 0x60 ∷ [])
    ∷ is (ratio (neg_ℤ (pos 4001)) 1) (0xC2 ∷ 2 ∷ 0xF0 ∷ 0x5F ∷ [])
    ∷ is (ratio (pos 32768) 1) (0xC2 ∷ 3 ∷ 0x00 ∷ 0x80 ∷ 0x00 ∷ [])
    ∷ is (ratio (neg_ℤ (pos 2147483647)) 1) (0xC2 ∷ 4 ∷ 0x80 ∷ 0 ∷ 0 ∷ 1 ∷ [])
    ∷ is (ratio (pos 1) 2) (0xC4 ∷ 2 ∷ 1 ∷ 2 ∷ [])
    ∷ is (ratio (pos 1) 200) (0xC4 ∷ 4 ∷ 0 ∷ 1 ∷ 0 ∷ 0xC8 ∷ [])
    ∷ is (operator 31) (0x9F ∷ [])
    ∷ is (operator 32) (0xA0 ∷ 0x20 ∷ [])
    ∷ is (operator 8191) (0xBF ∷ 0xFF ∷ [])
    ∷ is (string []) (0xC1 ∷ 0 ∷ [])
    ∷ is (identifier (0x78 ∷ 0x65 ∷ [])) (0xC5 ∷ 2 ∷ 0x78 ∷ 0x65 ∷ [])
    ∷ []
