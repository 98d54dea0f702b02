-- The bench cases of 01 on tokens that are proved, with their neighbours, as one table: bytes, and the token that they are.
-- proofs/Theorems.antt proves them all. Assumes nothing.
use Rattle.std.specs.Prelude.{Result, Ok, Err}
use Rattle.tokens.specs.Refusal.{refusal_at}
use Rattle.tokens.specs.declared.Refused.{Refused}
use Rattle.std.specs.Prelude.{ℕ, List, [], ◌∷◌, ℤ, pos, neg_ℤ}
use Rattle.tokens.specs.declared.Read.{Read}
use Rattle.tokens.specs.declared.Read.TheVariants.{Number, Identifier, String, Operator, Comment}
use Rattle.tokens.specs.declared.Refusal.TheVariants.{CutOff, TypeNotRead, BadData, NothingContinued}

pub record Case : Type 0 where
  pub bytes : List ℕ
  pub token : Result Read Refused

is : List ℕ → Result Read Refused → Case
is b t = record { bytes = b; token = t }

number : ℤ → ℕ → ℕ → Result Read Refused
number n d next = Ok (Number (record { num = n; den = d }) next)

unfoldable pub cases : List Case
unfolding is number
cases =
    is (0x00 ∷ 0x00 ∷ []) (number (neg_ℤ (pos 4000)) 1 2)
    ∷ is (0x7F ∷ 0xFF ∷ []) (number (pos 28767) 1 2)
    ∷ is (0xC2 ∷ 2 ∷ 0x70 ∷ 0x60 ∷ []) (number (pos 28768) 1 4)
    ∷ is (0xC2 ∷ 2 ∷ 0xF0 ∷ 0x5F ∷ []) (number (neg_ℤ (pos 4001)) 1 4)
    ∷ is (0xC2 ∷ 4 ∷ 0x80 ∷ 0 ∷ 0 ∷ 1 ∷ []) (number (neg_ℤ (pos 2147483647)) 1 6)
    ∷ is (0xC2 ∷ 4 ∷ 0x80 ∷ 0 ∷ 0 ∷ 0 ∷ []) (Err (refusal_at BadData 0))
    ∷ is (0x9F ∷ []) (Ok (Operator 31 1))
    ∷ is (0xA0 ∷ 0x20 ∷ []) (Ok (Operator 32 2))
    ∷ is (0xBF ∷ 0xFF ∷ []) (Ok (Operator 8191 2))
    ∷ is (0xC4 ∷ 2 ∷ 2 ∷ 4 ∷ []) (number (pos 1) 2 4)
    ∷ is (0xC4 ∷ 2 ∷ 1 ∷ 0 ∷ []) (Err (refusal_at BadData 0))
    ∷ is (0xC4 ∷ 4 ∷ 0 ∷ 1 ∷ 0 ∷ 0xC8 ∷ []) (number (pos 1) 200 6)
    ∷ is (0xC4 ∷ 2 ∷ 1 ∷ 0xFE ∷ []) (number (neg_ℤ (pos 1)) 2 4)
    ∷ is (0xC4 ∷ 8 ∷ 0x80 ∷ 0 ∷ 0 ∷ 0 ∷ 0x80 ∷ 0 ∷ 0 ∷ 0 ∷ []) (number (pos 1) 1 10)
    ∷ is (0xC2 ∷ 1 ∷ 0x70 ∷ 0xC7 ∷ 1 ∷ 0x60 ∷ []) (number (pos 28768) 1 6)
    ∷ is (0xC5 ∷ 5 ∷ 0x58 ∷ 0x65 ∷ 0x72 ∷ 0x6F ∷ 0x78 ∷ []) (Ok (Identifier 5 7))
    ∷ is (0xC5 ∷ 0 ∷ 0xC7 ∷ 1 ∷ 0x31 ∷ []) (Err (refusal_at BadData 0))
    ∷ is (0xC5 ∷ 0 ∷ 0xE7 ∷ 0 ∷ 0 ∷ 2 ∷ 0x58 ∷ 0x2D ∷ []) (Ok (Identifier 2 8))
    ∷ is (0xC1 ∷ 1 ∷ 255 ∷ []) (Err (refusal_at BadData 0))
    ∷ is (0xC1 ∷ 0 ∷ []) (Ok (String 0 2))
    ∷ is (0xC6 ∷ 1 ∷ 255 ∷ 0xC7 ∷ 0 ∷ []) (Ok (Comment 5))
    ∷ is (0xC7 ∷ 0 ∷ []) (Err (refusal_at NothingContinued 0))
    ∷ is (0xC8 ∷ 0 ∷ []) (Err (refusal_at TypeNotRead 0))
    ∷ is (0xC8 ∷ 0 ∷ 0xC7 ∷ []) (Err (refusal_at CutOff 2))
    ∷ is (0xE1 ∷ 0 ∷ 0 ∷ 2 ∷ 0x41 ∷ 0x42 ∷ 0xC7 ∷ 3 ∷ 0x43 ∷ []) (Err (refusal_at CutOff 6))
    ∷ is (0xA0 ∷ []) (Err (refusal_at CutOff 0))
    ∷ is [] (Err (refusal_at CutOff 0))
    ∷ []
