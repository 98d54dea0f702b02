-- The one written form of a token and of a list (01, Tokens: "The writer puts the header, then each token in one form"; 000, 2.5.1 and
-- 2.5.2, whose procedures are named below). In order: bytes of a number; sequences; the tokens; the list. Assumes nothing.
use Rattle.std.specs.Prelude.{ℕ, zero, suc, ◌+◌, ◌-◌, ◌*◌, ◌/◌, ◌%◌, ◌^◌, Bool, cond, ◌&&◌, List, [], ◌∷◌, ◌++◌, length, ℤ, pos, negsuc, ◌+ℤ◌, ◌==◌, nat_le, nat_lt, unsigned_abs}
use Rattle.std.specs.Int.Signed.{mag, non_neg}
use Rattle.tokens.specs.Format.{header, bias, string_type, integer_type, rational_type, identifier_type}
use Rattle.items.specs.Tokens.{Token, number, identifier, string, operator}

-- k bytes of the value v, high byte first (ExtractByte)
unfoldable pub bytes_of : ℕ → ℕ → List ℕ
bytes_of zero v = []
bytes_of (suc k) v = bytes_of k (v / 256) ++ ((v % 256) ∷ [])

-- z in two's complement of k bytes, as a value: "if num < 0 then num := 256^length + num"
unfoldable pub complement_of : ℕ → ℤ → ℕ
complement_of k (pos n) = n
complement_of k (negsuc n) = 2 ^ (8 * k) - suc n

-- AppendInt
abbrev pub integer_bytes : ℕ → ℤ → List ℕ
integer_bytes k z = bytes_of k (complement_of k z)

-- -2^(8k-1) to 2^(8k-1) - 1; `mag` of n and of -(n + 1) is n
abbrev pub holds_in : ℕ → ℤ → Bool
holds_in k z = nat_lt (mag z) (2 ^ (8 * k - 1))

-- BytesInInt, of a number inside the limits: the fewest bytes
unfoldable pub bytes_in : ℤ → ℕ
bytes_in z = cond (holds_in 1 z) 1 (cond (holds_in 2 z) 2 (cond (holds_in 3 z) 3 4))

abbrev pub larger : ℕ → ℕ → ℕ
larger a b = cond (nat_lt a b) b a

-- the 15 bits of a short number, -4000 to 28767
abbrev pub raised : ℤ → ℕ
raised z = unsigned_abs (z +ℤ pos bias)

unfoldable pub is_short : ℤ → Bool
is_short z = non_neg (z +ℤ pos bias) && nat_lt (raised z) 32768

-- a sequence of type k: a length byte up to 255, else three (AppendSequenceDescriptor)
unfoldable pub sequence_bytes : ℕ → List ℕ → List ℕ
sequence_bytes k d = cond (nat_le (length d) 255) ((192 + k) ∷ length d ∷ d) ((224 + k) ∷ (bytes_of 3 (length d) ++ d))

-- AppendInteger
unfoldable pub whole_bytes : ℤ → List ℕ
whole_bytes z = cond (is_short z) ((raised z / 256) ∷ (raised z % 256) ∷ []) (sequence_bytes integer_type (integer_bytes (bytes_in z) z))

-- AppendRational: "the shortest rational with equal halves"
unfoldable pub rational_bytes : ℤ → ℕ → List ℕ
rational_bytes n d = let k = larger (bytes_in n) (bytes_in (pos d)) in sequence_bytes rational_type (integer_bytes k n ++ integer_bytes k (pos d))

-- AppendOp
unfoldable pub operator_bytes : ℕ → List ℕ
operator_bytes n = cond (nat_lt n 32) ((128 + n) ∷ []) ((160 + n / 256) ∷ (n % 256) ∷ [])

unfoldable pub token_bytes : Token → List ℕ
token_bytes (number a) = cond (a.den == 1) (whole_bytes a.num) (rational_bytes a.num a.den)
token_bytes (identifier d) = sequence_bytes identifier_type d
token_bytes (string d) = sequence_bytes string_type d
token_bytes (operator n) = operator_bytes n

unfoldable pub tokens_bytes : List Token → List ℕ
tokens_bytes [] = []
tokens_bytes (t ∷ ts) = token_bytes t ++ tokens_bytes ts

-- the written form of a list
unfoldable pub written_of : List Token → List ℕ
written_of ts = header ++ tokens_bytes ts
