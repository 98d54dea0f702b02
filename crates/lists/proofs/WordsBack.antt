-- The four words of a token are read back from their bytes, whatever stands before and after them. Assumes nothing.
use Rattle.std.proofs.Common.{◌≡◌, ℕ, ◌+◌, ◌<◌, ◌≤◌, List, ◌++◌, length, refl, append_assoc, arith, length-append, le-leb}
use Rattle.table.specs.Words.{word_at, word_bytes}
use Rattle.table.proofs.Stores.{word_length, word_back}
use Rattle.items.specs.Listing.{entry_of, entry_at}
use Rattle.lists.specs.Promise.{four_words}

pub four_length : (k a b : ℕ) → length (four_words k a b) ≡ 16
unfolding word_bytes
four_length k a b = refl

-- the word after the words Q, of which there are n bytes
word_in : (P Q R L : List ℕ) (n w : ℕ) → w < 4294967296 → L ≡ P ++ (Q ++ (word_bytes w ++ R)) → length Q ≡ n → word_at L (length P + n) ≡ w
word_in P Q R L n w h e l =
    let g : P ++ (Q ++ (word_bytes w ++ R)) ≡ (P ++ Q) ++ (word_bytes w ++ R) = simp append_assoc in
    let m : length P + n ≡ length (P ++ Q) = omega (arith, length-append P Q) in
    rw (e, g, m) (word_back (P ++ Q) R w h)

-- four words that stand after P
pub four_back : (P R x : List ℕ) (k a b : ℕ) → k < 4294967296 → a < 4294967296 → b < 4294967296 → entry_at (P ++ (four_words k a b ++ R)) x (length P) ≡ entry_of x k a b 0
unfolding entry_at
four_back P R x k a b hk ha hb =
    let K = word_bytes k in
    let A = word_bytes a in
    let B = word_bytes b in
    let Z = word_bytes 0 in
    let L : List ℕ = P ++ (four_words k a b ++ R) in
    let e₀ : L ≡ P ++ (K ++ ((A ++ (B ++ Z)) ++ R)) = simp append_assoc in
    let e₁ : L ≡ P ++ (K ++ (A ++ ((B ++ Z) ++ R))) = simp append_assoc in
    let e₂ : L ≡ P ++ ((K ++ A) ++ (B ++ (Z ++ R))) = simp append_assoc in
    let e₃ : L ≡ P ++ ((K ++ (A ++ B)) ++ (Z ++ R)) = simp append_assoc in
    let n₂ : length (K ++ A) ≡ 8 = omega (arith, length-append K A, word_length k, word_length a) in
    let n₃ : length (K ++ (A ++ B)) ≡ 12 = omega (arith, length-append K (A ++ B), length-append A B, word_length k, word_length a, word_length b) in
    let l : length P + 16 ≤ length L = omega (arith, length-append P (four_words k a b ++ R), length-append (four_words k a b) R, four_length k a b) in
    let w₀ : word_at L (length P) ≡ k = rw e₀ (word_back P ((A ++ (B ++ Z)) ++ R) k hk) in
    rw (
      le-leb (length P + 16) (length L) l,
      w₀,
      word_in P K ((B ++ Z) ++ R) L 4 a ha e₁ (word_length k),
      word_in P (K ++ A) (Z ++ R) L 8 b hb e₂ n₂,
      word_in P (K ++ (A ++ B)) R L 12 0 (omega arith) e₃ n₃,
    )
