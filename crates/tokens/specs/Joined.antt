-- The data of a sequence: its own, and those of the continued sequences that directly follow it (000, 2.5.1; 01, Tokens; R1, R2, R3).
-- Past the end of the input every byte reads as 0, so that missing length bytes and missing data are one test. Assumes nothing.
use Rattle.std.specs.Prelude.{ℕ, zero, suc, ◌+◌, ◌%◌, ◌≤◌, List, [], ◌++◌, Bool, cond, ◌&&◌, ltb, leb, eqb, length, get_or, Option, Some, None}
use Rattle.std.proofs.Math.Seq.{slice}
use Rattle.tokens.specs.declared.Piece.{Piece}
use Rattle.tokens.specs.Format.{continued_type}
use Rattle.tokens.specs.Bytes.{value_of}

-- a short sequence (first byte 192 to 223) has one length byte and a long one (224 to 255) three
abbrev pub length_bytes : ℕ → ℕ
length_bytes b = cond (ltb b 224) 1 3

abbrev pub piece_from : ℕ → ℕ → Piece
piece_from s n = record { start = s; len = n }

-- n data bytes from `start` on, if the input has them
unfoldable pub within : List ℕ → ℕ → ℕ → Option Piece
within s start n = cond (leb (start + n) (length s)) (Some (piece_from start n)) None

-- where the data of the sequence token at `at` lie, if the token is not cut off
unfoldable pub piece_at : List ℕ → ℕ → Option Piece
piece_at s at = let k = length_bytes (get_or s at 0) in within s (at + 1 + k) (value_of (slice (at + 1) (at + 1 + k) s))

-- the first byte of a continued sequence: top bits 11, type 7
abbrev pub continued : ℕ → Bool
continued b = leb 192 b && eqb (b % 32) continued_type

-- the joined data with the place after them, or the place of a token of the sequence that is cut off
pub data Joined : Type 0 where
  whole : List ℕ → ℕ → Joined
  cut_at : ℕ → Joined

-- by cases on a piece
unfoldable pub on_piece : Option Piece → Joined → (ℕ → ℕ → Joined) → Joined
on_piece (Some p) missing more = more p.start p.len
on_piece None missing more = missing

-- the data d, and those of the continued tokens from `at` on, at most k of them
unfoldable pub joined_from : ℕ → List ℕ → ℕ → List ℕ → Joined
joined_from zero s at d = whole d at
joined_from (suc k) s at d =
    let more = on_piece (piece_at s at) (cut_at at) (λ start n. joined_from k s (start + n) (d ++ slice start (start + n) s)) in
    cond (continued (get_or s at 0)) more (whole d at)

-- the data of the sequence token at `at`, joined
unfoldable pub joined_at : List ℕ → ℕ → Joined
joined_at s at = on_piece (piece_at s at) (cut_at at) (λ start n. joined_from (length s) s (start + n) (slice start (start + n) s))

-- the data of a sequence that is whole
unfoldable pub data_of : Joined → List ℕ
data_of (whole d next) = d
data_of (cut_at place) = []

-- ---- a piece at a time

-- the data of the continued token at `at`; missing where none continues
abbrev pub continuing : List ℕ → ℕ → Option Piece
continuing s at = cond (continued (get_or s at 0)) (piece_at s at) None

-- the data of all continued tokens from `at` on
abbrev pub continuations : List ℕ → ℕ → Joined
continuations s at = joined_from (length s) s at []

-- whole data that fit at o in a table of n elements
abbrev pub FitsText : ℕ → ℕ → Joined → Type 0
FitsText n o (whole d next) = o + length d ≤ n
FitsText n o (cut_at place) = ⊥
