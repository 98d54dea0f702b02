-- Bytes put one after another, and the bytes of a sequence. Assumes nothing.
use Rattle.std.proofs.Common.{◌≡◌, ℕ, zero, suc, ◌+◌, ◌-◌, ◌/◌, ◌%◌, ◌<◌, ◌≤◌, Bool, true, false, cond, leb, List, [], ◌∷◌, ◌++◌, length, set, refl, ap, ◌∙◌, arith, length-append, le-leb}
use lib.Seq.{slice, length-slice, sets}
use borrow.Author.Tests.{lt-leb}
use Rattle.table.proofs.Stores.{sets_append, sets_snoc}
use Rattle.lists.specs.Written.{bytes_of, sequence_bytes}
use Rattle.lists.specs.Inner.{Room, Put, head_bytes}
use Rattle.lists.proofs.HighBytes.{bytes_length}

-- bytes w that are a and then b: putting them in turn puts w
module _ (w a b : List ℕ) (e : w ≡ a ++ b) where
  pub put_then : (l l₁ l₂ : List ℕ) (o p r : ℕ) → Put l l₁ o a p → Put l₁ l₂ p b r → Put l l₂ o w r
  put_then l l₁ l₂ o p r m n = rw e (record {
    next = omega (arith, m.next, n.next, length-append a b);
    stored = n.stored ∙ rw (m.stored, m.next) (sets_append l o a b);
  })

  -- where there is room for w
  module _ (l : List ℕ) (o : ℕ) (h : Room l o w) where
    both : o + (length a + length b) ≤ length l
    both = omega (arith, h, ap length e, length-append a b)

    pub room_first : Room l o a
    room_first = omega (arith, both)

    pub room_then : (l₁ : List ℕ) (p : ℕ) → Put l l₁ o a p → length l₁ ≡ length l → Room l₁ p b
    room_then l₁ p m k = omega (arith, both, m.next, k)

-- the low byte first
pub low_first : (l : List ℕ) (at i w : ℕ) → 0 < i → sets l at (bytes_of i w) ≡ sets (set l (at + (i - 1)) (w % 256)) at (bytes_of (i - 1) (w / 256))
unfolding bytes_of
low_first l at zero w h = absurd (omega arith)
low_first l at (suc i) w h =
    let e : suc i - 1 ≡ i = omega arith in
    rw e (sets_snoc l at (bytes_of i (w / 256)) (w % 256) ∙ ap (λ (n : ℕ). sets (set l (at + n) (w % 256)) at (bytes_of i (w / 256))) (bytes_length i (w / 256)))

-- a sequence is its head and its data
pub head_short : (k n : ℕ) → n ≤ 255 → head_bytes k n ≡ (192 + k) ∷ n ∷ []
unfolding head_bytes
head_short k n h = rw (le-leb n 255 h)

pub head_long : (k n : ℕ) → 255 < n → head_bytes k n ≡ (224 + k) ∷ bytes_of 3 n
unfolding head_bytes
head_long k n h = rw (lt-leb n 255 h)

pub sequence_is : (k : ℕ) (d : List ℕ) → sequence_bytes k d ≡ head_bytes k (length d) ++ d
unfolding sequence_bytes head_bytes
sequence_is k d = go (leb (length d) 255)
  where
    go : (t : Bool) → cond t ((192 + k) ∷ length d ∷ d) ((224 + k) ∷ (bytes_of 3 (length d) ++ d)) ≡ cond t ((192 + k) ∷ length d ∷ []) ((224 + k) ∷ bytes_of 3 (length d)) ++ d
    go true = refl
    go false = refl

-- a text, from its head on
module _ (d : List ℕ) (k : ℕ) where
  pub text_then : (l l₁ : List ℕ) (o p : ℕ) → Room l o (sequence_bytes k d) → Put l l₁ o (head_bytes k (length d)) p → length l₁ ≡ length l → p + length d ≤ length l₁
  text_then l l₁ o p r m e = room_then _ (head_bytes k (length d)) d (sequence_is k d) l o r l₁ p m e

  pub text_put : (l l₁ l₂ : List ℕ) (o p : ℕ) → Put l l₁ o (head_bytes k (length d)) p → l₂ ≡ sets l₁ p d → Put l l₂ o (sequence_bytes k d) (p + length d)
  text_put l l₁ l₂ o p m e = put_then _ (head_bytes k (length d)) d (sequence_is k d) l l₁ l₂ o p (p + length d) m (record { next = refl; stored = e })

-- the same of a text of n bytes in a table
pub text_size : (x : List ℕ) (s n k : ℕ) → s + n ≤ length x → length (sequence_bytes k (slice s (s + n) x)) ≡ length (head_bytes k n) + n
text_size x s n k h =
    let e : length (slice s (s + n) x) ≡ n = length-slice s (s + n) x h ∙ omega arith in
    ap length (sequence_is k (slice s (s + n) x)) ∙ length-append (head_bytes k (length (slice s (s + n) x))) (slice s (s + n) x) ∙ rw e
