-- The tables that reading back leaves hold the same tokens: equal kinds, numbers and texts. Assumes nothing.
use Rattle.std.proofs.Common.{◌≡◌, ℕ, zero, suc, ◌+◌, ◌-◌, ◌*◌, ◌<◌, ◌≤◌, true, cond, ltb, List, [], ◌∷◌, ◌++◌, length, ℤ, pos, negsuc, nat_abs, sym, refl, ap, ◌∙◌, append_assoc, append-nil, le_refl, add-zero, arith, length-append, take_at, to_z-of_z, w32, SFits, of_z, ltb-true, le-ltb, lt-ltb, le-leb}
use lib.Seq.{slice}
use mir.Facts.{Fits-of_z}
use Rattle.numbers.proofs.Cond.{both}
use Rattle.items.specs.Tokens.{Token, number, identifier, string, operator, writable, all_writable}
use Rattle.items.specs.Listing.{writes, entry, in_table, entry_of, entry_at, all, on_entry, listed_from, listed}
use Rattle.lists.specs.Promise.{text_of, texts_of, words_of, list_of}
use Rattle.lists.proofs.NumberLimits.{number_limits}
use Rattle.lists.proofs.SequenceBack.{after}
use Rattle.lists.proofs.WordsBack.{four_length, four_back}

-- one turn, with room for k tokens where that is enough for what is left
pub list_turn : (k : ℕ) (l x : List ℕ) (at : ℕ) (ts : List Token) → length l ≤ at + k →
    listed_from k l x at ts ≡ cond (ltb at (length l)) (on_entry at ts (entry_at l x at) (listed_from (k - 1) l x (at + 16))) (all ts)
unfolding listed_from
list_turn zero l x at ts h = rw (le-ltb at (length l) (omega arith))
list_turn (suc k) l x at ts h = let e : suc k - 1 ≡ k = omega arith in rw e

-- a numerator inside the limits fits a word
pub word_fits : (z : ℤ) → nat_abs z ≤ 2147483647 → SFits w32 z
word_fits (pos n) h = record { sfits = omega arith }
word_fits (negsuc n) h = record { sfits = omega arith }

-- ---- a token's words, where its text stands after T

module _ (T d r : List ℕ) (h : length T + length d < 2147483648) where
  text_in : in_table (T ++ (d ++ r)) (length T) (length d) ≡ true
  unfolding in_table
  text_in =
      let n : length T + length d ≤ length (T ++ (d ++ r)) = omega (arith, length-append T (d ++ r), length-append d r) in
      rw (lt-ltb (length T) 2147483648 (omega arith), lt-ltb (length d) 2147483648 (omega arith), le-leb (length T + length d) (length (T ++ (d ++ r))) n)

  text_is : slice (length T) (length T + length d) (T ++ (d ++ r)) ≡ d
  text_is = (rw (add-zero (length T)) at (after T (d ++ r) 0 (length d))) ∙ take_at d r (length d) refl

module _ (P R T r : List ℕ) where
  entry_back : (t : Token) → writable t ≡ true → length T + length (text_of t) < 2147483648
      → entry_at (P ++ (words_of (length T) t ++ R)) (T ++ (text_of t ++ r)) (length P) ≡ writes t
  unfolding words_of text_of writable entry_of entry
  entry_back (number a) w h =
      let l = number_limits a w in
      let f = word_fits a.num l.small in
      rw (four_back P R (T ++ r) 1 (of_z w32 a.num) a.den (omega arith) (Fits-of_z f).fits (omega (arith, l.below)), to_z-of_z f, w)
  entry_back (identifier d) w h = rw (four_back P R (T ++ (d ++ r)) 2 (length T) (length d) (omega arith) (omega arith) (omega arith), text_in T d r h, text_is T d r h, w)
  entry_back (string d) w h = rw (four_back P R (T ++ (d ++ r)) 3 (length T) (length d) (omega arith) (omega arith) (omega arith), text_in T d r h, text_is T d r h, w)
  entry_back (operator n) w h = let g = ltb-true n 8192 w in rw (four_back P R (T ++ r) 4 n 0 (omega arith) (omega arith) (omega arith), w)

pub words_length : (o : ℕ) (t : Token) → length (words_of o t) ≡ 16
unfolding words_of
words_length o (number a) = four_length 1 (of_z w32 a.num) a.den
words_length o (identifier d) = four_length 2 o (length d)
words_length o (string d) = four_length 3 o (length d)
words_length o (operator n) = four_length 4 n 0

pub list_length : (o : ℕ) (ts : List Token) → length (list_of o ts) ≡ 16 * length ts
unfolding list_of
list_length o [] = refl
list_length o (t ∷ ts) = omega (arith, length-append (words_of o t) (list_of (o + length (text_of t)) ts), words_length o t, list_length (o + length (text_of t)) ts)

-- ---- every token

-- the tokens after any words P, their texts after any text T
list_back : (ts : List Token) (k : ℕ) (P T r : List ℕ) (us : List Token) → all_writable ts ≡ true → length T + length (texts_of ts) < 2147483648 → length (list_of (length T) ts) ≤ k
    → listed_from k (P ++ list_of (length T) ts) (T ++ (texts_of ts ++ r)) (length P) us ≡ all (us ++ ts)
unfolding list_of texts_of all_writable on_entry
list_back [] k P T r us w h room =
    list_turn k (P ++ []) (T ++ r) (length P) us (simp append-nil (omega arith)) ∙
    rw (append-nil P, append-nil us, le-ltb (length P) (length P) (le_refl (length P)))
list_back (t ∷ ts) k P T r us w h room =
    let W : List ℕ = words_of (length T) t in
    let D : List ℕ = text_of t in
    let R : List ℕ = list_of (length T + length (text_of t)) ts in
    let l : List ℕ = P ++ (W ++ R) in
    let x : List ℕ = T ++ ((D ++ texts_of ts) ++ r) in
    let ws = both (writable t) (all_writable ts) w in
    let lw = words_length (length T) t in
    let n = length-append W R in
    let m = length-append P (W ++ R) in
    let d = length-append D (texts_of ts) in
    let gx : T ++ ((D ++ texts_of ts) ++ r) ≡ T ++ (D ++ (texts_of ts ++ r)) = simp append_assoc in
    let hx : T ++ ((D ++ texts_of ts) ++ r) ≡ (T ++ D) ++ (texts_of ts ++ r) = simp append_assoc in
    let hl : P ++ (W ++ R) ≡ (P ++ W) ++ R = simp append_assoc in
    let a : length P + 16 ≡ length (P ++ W) = omega (arith, length-append P W, lw) in
    let b : length T + length D ≡ length (T ++ D) = sym (length-append T D) in
    let e : entry_at l x (length P) ≡ writes t = rw gx (entry_back P R T (texts_of ts ++ r) t ws.0 (omega arith)) in
    let i = list_back ts (k - 1) (P ++ W) (T ++ D) r (us ++ (t ∷ [])) ws.1 (omega arith) (rw (← b) (omega arith)) in
    list_turn k l x (length P) us (omega arith) ∙
    rw (lt-ltb (length P) (length l) (omega arith), e, hx, hl, a, b) (i ∙ ap all (append_assoc us (t ∷ []) ts))

-- the words and the texts of a list are a list of the same tokens
pub same_list : (ts : List Token) (r : List ℕ) → all_writable ts ≡ true → length (texts_of ts) < 2147483648 → listed (list_of 0 ts) (texts_of ts ++ r) ≡ all ts
unfolding listed
same_list ts r w h = list_back ts (length (list_of 0 ts)) [] [] r [] w (omega arith) (le_refl (length (list_of 0 ts)))
