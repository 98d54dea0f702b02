-- A sequence token is read back: its data, and the token that they are judged to be. One proof for every type and both lengths of the
-- length. Assumes nothing.
use Rattle.std.specs.Prelude.{Some}
use Rattle.tokens.specs.Joined.{piece_from}
use Rattle.std.proofs.Common.{◌≡◌, ℕ, suc, ◌+◌, ◌%◌, ◌<◌, ◌≤◌, false, List, [], ◌∷◌, ◌++◌, length, get_or, take, sym, refl, ◌∙◌, append_assoc, add-zero, arith, length-append, take_at, get_or-append-add, le-ltb, lt-ltb, ne_eqb, le-leb}
use lib.Seq.{slice, get_or-append_seam, take-append-add, drop-append-add}
use borrow.Author.Tests.{lt-leb}
use Rattle.tokens.specs.Bytes.{value_after}
use Rattle.tokens.specs.Joined.{whole, length_bytes, piece_at, continued, joined_at}
use Rattle.tokens.specs.Token.{token_at, token_of, sequence, judged}
use Rattle.tokens.proofs.Pieces.{piece_is, within_data, joined_data}
use Rattle.tokens.proofs.Turns.{turn}
use Rattle.lists.specs.Written.{bytes_of, sequence_bytes}
use Rattle.lists.proofs.HighBytes.{bytes_length, bytes_value}
use Rattle.numbers.proofs.Cond.{split}

-- a part of what stands after p
pub after : (p q : List ℕ) (i j : ℕ) → slice (length p + i) (length p + j) (p ++ q) ≡ slice i j q
after p q i j = rw (take-append-add p q j, drop-append-add p (take j q) i)

-- ---- the first byte b, the length bytes l, the data d, after any bytes p and before bytes r that do not continue them

module _ (p r : List ℕ) (b : ℕ) (l d : List ℕ) (seq : 192 ≤ b) (long : length l ≡ length_bytes b) (value : value_after 0 l ≡ length d) (last : continued (get_or r 0 0) ≡ false) where
  q : List ℕ
  q = p ++ (b ∷ l)

  s : List ℕ
  s = q ++ (d ++ r)

  q_length : length q ≡ length p + 1 + length l
  unfolding q
  q_length = simp length-append (omega arith)

  s_length : length s ≡ length p + 1 + length l + length d + length r
  unfolding s
  s_length = simp (length-append, q_length) (omega arith)

  regroup : s ≡ p ++ (b ∷ (l ++ (d ++ r)))
  unfolding s q
  regroup = append_assoc p (b ∷ l) (d ++ r)

  first : get_or s (length p) 0 ≡ b
  first = rw regroup (get_or-append_seam p b (l ++ (d ++ r)) 0)

  count : length d ≡ value_after 0 (slice (length p + 1) (length p + 1 + length l) s)
  count =
      let e : length p + 1 + length l ≡ length p + suc (length l) = omega arith in
      rw (e, regroup, after p (b ∷ (l ++ (d ++ r))) 1 (suc (length l)), take_at l (d ++ r) (length l) refl) (sym value)

  piece : piece_at s (length p) ≡ Some (piece_from (length q) (length d))
  piece =
      let i = piece_is s (length p) (length l) (length d) (rw first long) count in
      rw (← q_length) at (i ∙ within_data s (length p + 1 + length l) (length d) (omega (arith, s_length)))

  own : slice (length q) (length q + length d) s ≡ d
  unfolding s
  own = rw (add-zero (length q)) at (after q (d ++ r) 0 (length d)) ∙ take_at d r (length d) refl

  after_it : get_or s (length q + length d) 0 ≡ get_or r 0 0
  unfolding s
  after_it = get_or-append-add q (d ++ r) (length d) 0 ∙ rw (add-zero (length d)) at (get_or-append-add d r 0 0)

  joined : joined_at s (length p) ≡ whole d (length q + length d)
  joined =
      joined_data s (length p) (length q) (length d) piece ∙
      turn (length s) s (length q + length d) _ (omega arith) ∙
      rw (after_it, last, own)

  read : token_at s (length p) ≡ judged (b % 32) (length p) d (length q + length d)
  unfolding token_at token_of sequence
  read = rw (lt-ltb (length p) (length s) (omega (arith, s_length)), first, joined, le-ltb b 128 (omega arith), le-ltb b 160 (omega arith), le-ltb b 192 seq)

-- ---- the bytes w of a sequence of type t with the data d

abbrev Reads : List ℕ → List ℕ → ℕ → List ℕ → List ℕ → Type 0
Reads p r t d w =
    (joined_at (p ++ (w ++ r)) (length p) ≡ whole d (length p + length w))
    × (token_at (p ++ (w ++ r)) (length p) ≡ judged t (length p) d (length p + length w))

reads : (p r : List ℕ) (b t : ℕ) (l d : List ℕ) → 192 ≤ b → b % 32 ≡ t → length l ≡ length_bytes b → value_after 0 l ≡ length d → continued (get_or r 0 0) ≡ false → Reads p r t d (b ∷ (l ++ d))
unfolding s q
reads p r b t l d seq ty long value last =
    let g : p ++ ((b ∷ (l ++ d)) ++ r) ≡ (p ++ (b ∷ l)) ++ (d ++ r) = simp append_assoc in
    let n : length p + length (b ∷ (l ++ d)) ≡ length (p ++ (b ∷ l)) + length d = simp length-append (omega arith) in
    (rw (g, n) (joined p r b l d seq long value last), rw (g, n, ← ty) (read p r b l d seq long value last))

pub sequence_short : (t : ℕ) (d : List ℕ) → length d ≤ 255 → sequence_bytes t d ≡ (192 + t) ∷ length d ∷ d
unfolding sequence_bytes
sequence_short t d h = rw (le-leb (length d) 255 h)

pub sequence_long : (t : ℕ) (d : List ℕ) → 255 < length d → sequence_bytes t d ≡ (224 + t) ∷ (bytes_of 3 (length d) ++ d)
unfolding sequence_bytes
sequence_long t d h = rw (lt-leb (length d) 255 h)

one_byte : (n : ℕ) → value_after 0 (n ∷ []) ≡ n
unfolding value_after
one_byte n = omega arith

pub sequence_back : (p r : List ℕ) (t : ℕ) (d : List ℕ) → t < 32 → length d ≤ 16777215 → continued (get_or r 0 0) ≡ false
    → (joined_at (p ++ (sequence_bytes t d ++ r)) (length p) ≡ whole d (length p + length (sequence_bytes t d)))
    × (token_at (p ++ (sequence_bytes t d ++ r)) (length p) ≡ judged t (length p) d (length p + length (sequence_bytes t d)))
sequence_back p r t d ty fits last =
    split 255 (length d)
    (λ h.
    let n = bytes_value 3 (length d) (omega arith) in
    let b : 3 ≡ length_bytes (224 + t) = rw (le-ltb (224 + t) 224 (omega arith)) in
    let e : (224 + t) % 32 ≡ t = omega arith in
    rw (sequence_long t d h) (reads p r (224 + t) t (bytes_of 3 (length d)) d (omega arith) e (bytes_length 3 (length d) ∙ b) n last))
    (λ h.
    let b : 1 ≡ length_bytes (192 + t) = rw (lt-ltb (192 + t) 224 (omega arith)) in
    let e : (192 + t) % 32 ≡ t = omega arith in
    rw (sequence_short t d h) (reads p r (192 + t) t (length d ∷ []) d (omega arith) e b (one_byte (length d)) last))

-- no sequence but one of type 7 continues another
pub sequence_plain : (t : ℕ) (d r : List ℕ) → t < 32 → (t ≡ 7 → ⊥) → continued (get_or (sequence_bytes t d ++ r) 0 0) ≡ false
sequence_plain t d r h f =
    split 255 (length d)
    (λ g. let e : (224 + t) % 32 ≡ t = omega arith in rw (sequence_long t d g, le-leb 192 (224 + t) (omega arith), e, ne_eqb t 7 f))
    (λ g. let e : (192 + t) % 32 ≡ t = omega arith in rw (sequence_short t d g, le-leb 192 (192 + t) (omega arith), e, ne_eqb t 7 f))

-- a sequence is longer than its data
pub sequence_length : (t : ℕ) (d : List ℕ) → length d + 2 ≤ length (sequence_bytes t d)
sequence_length t d =
    split 255 (length d)
    (λ h. rw (sequence_long t d h) (omega (arith, length-append (bytes_of 3 (length d)) d, bytes_length 3 (length d))))
    (λ h. rw (sequence_short t d h) (omega arith))
