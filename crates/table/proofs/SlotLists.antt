-- The slots of a table: twenty bytes at 20 * k are the slot at k; the slots pin every byte. Assumes nothing.
use mathlib.Core.Path.{◌≡◌, refl, ap, sym, ◌∙◌}
use mathlib.Core.List.{List, [], ◌∷◌, ◌++◌}
use Prim.Native.Nat.{ℕ, zero, suc, ◌+◌, ◌-◌, ◌*◌, ◌^◌, ◌≤◌, ◌<◌}
use native.Mathlib.Omega.{arith}
use native.Mathlib.Numerals.{towards_suc}
use lib.ListN.{length, get_or, set, take}
use lib.Seq.{sets, length-sets, length-take-le}
use Rattle.table.specs.declared.Slot.{Slot}
use Rattle.table.specs.Words.{word_at, word_bytes}
use Rattle.table.specs.Slots.{words_of, slots, slots_of, slot_bytes, nil, mk}
use Rattle.table.proofs.WordLists.{Bytes, fill_words, length_words, get_words, put_words, words_inj, words_take, bytes_take}
use Rattle.table.proofs.Stores.{sets_append, word_length}

five : (k : ℕ) → 5 * suc k ≡ suc (suc (suc (suc (suc (5 * k)))))
five k = omega arith

pub fill_slots_of : (w : List ℕ) → length w < 5 * length (slots_of w) + 5
unfolding slots_of
fill_slots_of [] = omega arith
fill_slots_of (k ∷ []) = omega arith
fill_slots_of (k ∷ a ∷ []) = omega arith
fill_slots_of (k ∷ a ∷ b ∷ []) = omega arith
fill_slots_of (k ∷ a ∷ b ∷ c ∷ []) = omega arith
fill_slots_of (k ∷ a ∷ b ∷ c ∷ d ∷ w) = omega (arith, fill_slots_of w)

length_slots_of : (w : List ℕ) → 5 * length (slots_of w) ≤ length w
unfolding slots_of
length_slots_of [] = omega arith
length_slots_of (k ∷ []) = omega arith
length_slots_of (k ∷ a ∷ []) = omega arith
length_slots_of (k ∷ a ∷ b ∷ []) = omega arith
length_slots_of (k ∷ a ∷ b ∷ c ∷ []) = omega arith
length_slots_of (k ∷ a ∷ b ∷ c ∷ d ∷ w) = omega (arith, length_slots_of w)

pub get_slots_of : (k : ℕ) (w : List ℕ) → 5 * k + 5 ≤ length w → mk (get_or w (5 * k) 0) (get_or w (5 * k + 1) 0) (get_or w (5 * k + 2) 0) (get_or w (5 * k + 3) 0) (get_or w (5 * k + 4) 0) ≡ get_or (slots_of w) k nil
unfolding slots_of
get_slots_of k [] h = absurd (omega arith)
get_slots_of k (x ∷ []) h = absurd (omega arith)
get_slots_of k (x ∷ a ∷ []) h = absurd (omega arith)
get_slots_of k (x ∷ a ∷ b ∷ []) h = absurd (omega arith)
get_slots_of k (x ∷ a ∷ b ∷ c ∷ []) h = absurd (omega arith)
get_slots_of zero (x ∷ a ∷ b ∷ c ∷ d ∷ w) h = refl
get_slots_of (suc k) (x ∷ a ∷ b ∷ c ∷ d ∷ w) h = simp (five, towards_suc) (simp towards_suc at (get_slots_of k w (omega arith)))

abbrev pub put_at : List ℕ → ℕ → Slot → List ℕ
put_at w b v = set (set (set (set (set w b v.kind) (b + 1) v.a) (b + 2) v.b) (b + 3) v.c) (b + 4) v.d

pub put_slots_of : (k : ℕ) (w : List ℕ) (v : Slot) → 5 * k + 5 ≤ length w → slots_of (put_at w (5 * k) v) ≡ set (slots_of w) k v
unfolding slots_of
put_slots_of k [] v h = absurd (omega arith)
put_slots_of k (x ∷ []) v h = absurd (omega arith)
put_slots_of k (x ∷ a ∷ []) v h = absurd (omega arith)
put_slots_of k (x ∷ a ∷ b ∷ []) v h = absurd (omega arith)
put_slots_of k (x ∷ a ∷ b ∷ c ∷ []) v h = absurd (omega arith)
put_slots_of zero (x ∷ a ∷ b ∷ c ∷ d ∷ w) v h = refl
put_slots_of (suc k) (x ∷ a ∷ b ∷ c ∷ d ∷ w) v h = simp (five, towards_suc) (ap (λ (l : List Slot). mk x a b c d ∷ l) (simp towards_suc at (put_slots_of k w v (omega arith))))

-- ---- the same of a table of bytes

-- so many slots, so many bytes
pub roomy : (n : ℕ) (w : List ℕ) → 20 * n ≤ length w → n ≤ length (slots w)
unfolding slots
roomy n w h = omega (arith, fill_words w, fill_slots_of (words_of w))

pub room_back : (n : ℕ) (w : List ℕ) → n ≤ length (slots w) → 20 * n ≤ length w
unfolding slots
room_back n w h = omega (arith, length_words w, length_slots_of (words_of w))

got_slot : (w : List ℕ) (k : ℕ) → 20 * k + 20 ≤ length w
    → mk (word_at w (4 * (5 * k))) (word_at w (4 * (5 * k + 1))) (word_at w (4 * (5 * k + 2))) (word_at w (4 * (5 * k + 3))) (word_at w (4 * (5 * k + 4))) ≡ get_or (slots w) k nil
unfolding slots
got_slot w k h =
    rw (get_words (5 * k) w (omega arith), get_words (5 * k + 1) w (omega arith), get_words (5 * k + 2) w (omega arith), get_words (5 * k + 3) w (omega arith), get_words (5 * k + 4) w (omega arith))
    (get_slots_of k (words_of w) (omega (arith, fill_words w)))

pub get_slot : (w : List ℕ) (k : ℕ) → 20 * k + 20 ≤ length w
    → mk (word_at w (20 * k)) (word_at w (20 * k + 4)) (word_at w (20 * k + 8)) (word_at w (20 * k + 12)) (word_at w (20 * k + 16)) ≡ get_or (slots w) k nil
get_slot w k h =
    let e₀ : 20 * k ≡ 4 * (5 * k) = omega arith in
    let e₁ : 20 * k + 4 ≡ 4 * (5 * k + 1) = omega arith in
    let e₂ : 20 * k + 8 ≡ 4 * (5 * k + 2) = omega arith in
    let e₃ : 20 * k + 12 ≡ 4 * (5 * k + 3) = omega arith in
    let e₄ : 20 * k + 16 ≡ 4 * (5 * k + 4) = omega arith in
    rw (e₁, e₂, e₃, e₄, e₀) (got_slot w k h)

-- a word, and what follows it
pub word_then : (t : List ℕ) (q q' x : ℕ) (ys : List ℕ) → q' ≡ q + 4 → sets (sets t q (word_bytes x)) q' ys ≡ sets t q (word_bytes x ++ ys)
word_then t q q' x ys e = rw e (rw word_length at (sets_append t q (word_bytes x) ys))

-- the words of a slot one after another
pub emitted : (t t₁ t₂ t₃ t₄ t₅ : List ℕ) (p : ℕ) (v : Slot)
    → t₁ ≡ sets t p (word_bytes v.kind) → t₂ ≡ sets t₁ (p + 4) (word_bytes v.a) → t₃ ≡ sets t₂ (p + 8) (word_bytes v.b) → t₄ ≡ sets t₃ (p + 12) (word_bytes v.c) → t₅ ≡ sets t₄ (p + 16) (word_bytes v.d)
    → t₅ ≡ sets t p (slot_bytes v)
unfolding slot_bytes
emitted t t₁ t₂ t₃ t₄ t₅ p v e₁ e₂ e₃ e₄ e₅ =
    (rw (e₄, e₃, e₂, e₁) at e₅) ∙
    word_then _ (p + 12) (p + 16) v.c _ (omega arith) ∙
    word_then _ (p + 8) (p + 12) v.b _ (omega arith) ∙
    word_then _ (p + 4) (p + 8) v.a _ (omega arith) ∙
    word_then t p (p + 4) v.kind _ refl

-- a word put is a word of the list
word_put : (i q x : ℕ) (w : List ℕ) → q ≡ 4 * i → x < 2 ^ 32 → q + 4 ≤ length w → words_of (sets w q (word_bytes x)) ≡ set (words_of w) i x
word_put i q x w e f h = rw e (put_words i w x f (omega arith))

-- the words of a slot below 2^32, as the words of the machine are
pub record Sized (v : Slot) : Type 0 where
  pub kind : v.kind < 2 ^ 32
  pub a : v.a < 2 ^ 32
  pub b : v.b < 2 ^ 32
  pub c : v.c < 2 ^ 32
  pub d : v.d < 2 ^ 32

pub put_slot : (w : List ℕ) (k : ℕ) (v : Slot) → Sized v → 20 * k + 20 ≤ length w → slots (sets w (20 * k) (slot_bytes v)) ≡ set (slots w) k v
unfolding slots
put_slot w k v f h =
    let p = 20 * k in
    let w₁ = sets w p (word_bytes v.kind) in
    let w₂ = sets w₁ (p + 4) (word_bytes v.a) in
    let w₃ = sets w₂ (p + 8) (word_bytes v.b) in
    let w₄ = sets w₃ (p + 12) (word_bytes v.c) in
    let l₁ : length w₁ ≡ length w = length-sets w p (word_bytes v.kind) in
    let l₂ : length w₂ ≡ length w = length-sets w₁ (p + 4) (word_bytes v.a) ∙ l₁ in
    let l₃ : length w₃ ≡ length w = length-sets w₂ (p + 8) (word_bytes v.b) ∙ l₂ in
    let l₄ : length w₄ ≡ length w = length-sets w₃ (p + 12) (word_bytes v.c) ∙ l₃ in
    (rw (← (emitted w w₁ w₂ w₃ w₄ _ p v refl refl refl refl refl))
    (ap slots_of
    (word_put (5 * k + 4) (p + 16) v.d w₄ (omega arith) f.d (omega arith) ∙
    (rw (word_put (5 * k + 3) (p + 12) v.c w₃ (omega arith) f.c (omega arith), word_put (5 * k + 2) (p + 8) v.b w₂ (omega arith) f.b (omega arith), word_put (5 * k + 1) (p + 4) v.a w₁ (omega arith) f.a (omega arith), word_put (5 * k) p v.kind w (omega arith) f.kind (omega arith)) refl)))) ∙
    put_slots_of k (words_of w) v (omega (arith, fill_words w))

-- ---- the slots pin every byte

-- the slots say every word of a table whose length is a multiple of five
slots_of_inj : (n : ℕ) (w w' : List ℕ) → length w ≡ 5 * n → length w' ≡ 5 * n → slots_of w ≡ slots_of w' → w ≡ w'
unfolding slots_of
slots_of_inj n [] [] e f p = refl
slots_of_inj n [] (x ∷ w') e f p = absurd (omega arith)
slots_of_inj n (k ∷ []) w' e f p = absurd (omega arith)
slots_of_inj n (k ∷ a ∷ []) w' e f p = absurd (omega arith)
slots_of_inj n (k ∷ a ∷ b ∷ []) w' e f p = absurd (omega arith)
slots_of_inj n (k ∷ a ∷ b ∷ c ∷ []) w' e f p = absurd (omega arith)
slots_of_inj n (k ∷ a ∷ b ∷ c ∷ d ∷ w) [] e f p = absurd (omega arith)
slots_of_inj n (k ∷ a ∷ b ∷ c ∷ d ∷ w) (k' ∷ []) e f p = absurd (omega arith)
slots_of_inj n (k ∷ a ∷ b ∷ c ∷ d ∷ w) (k' ∷ a' ∷ []) e f p = absurd (omega arith)
slots_of_inj n (k ∷ a ∷ b ∷ c ∷ d ∷ w) (k' ∷ a' ∷ b' ∷ []) e f p = absurd (omega arith)
slots_of_inj n (k ∷ a ∷ b ∷ c ∷ d ∷ w) (k' ∷ a' ∷ b' ∷ c' ∷ []) e f p = absurd (omega arith)
slots_of_inj n (k ∷ a ∷ b ∷ c ∷ d ∷ w) (k' ∷ a' ∷ b' ∷ c' ∷ d' ∷ w') e f p =
    let h : mk k a b c d ≡ mk k' a' b' c' d' = cc in
    let t : slots_of w ≡ slots_of w' = cc in
    let r : w ≡ w' = slots_of_inj (n - 1) w w' (omega arith) (omega arith) t in
    let e₁ : k ≡ k' = ap (λ (v : Slot). v.kind) h in
    let e₂ : a ≡ a' = ap (λ (v : Slot). v.a) h in
    let e₃ : b ≡ b' = ap (λ (v : Slot). v.b) h in
    let e₄ : c ≡ c' = ap (λ (v : Slot). v.c) h in
    let e₅ : d ≡ d' = ap (λ (v : Slot). v.d) h in
    cc

-- the slots say every byte of a table whose length is a multiple of twenty
pub slots_inj : (n : ℕ) (w w' : List ℕ) → Bytes w → Bytes w' → length w ≡ 20 * n → length w' ≡ 20 * n → slots w ≡ slots w' → w ≡ w'
unfolding slots
slots_inj n w w' s t e f p =
    let l₁ = fill_words w in
    let l₂ = fill_words w' in
    let l₃ = length_words w in
    let l₄ = length_words w' in
    words_inj (5 * n) w w' s t (omega arith) (omega arith) (slots_of_inj n (words_of w) (words_of w') (omega arith) (omega arith) p)

slots_of_take : (n : ℕ) (w : List ℕ) → slots_of (take (5 * n) w) ≡ take n (slots_of w)
unfolding slots_of
slots_of_take zero w = refl
slots_of_take (suc n) [] = simp five
slots_of_take (suc n) (k ∷ []) = simp five
slots_of_take (suc n) (k ∷ a ∷ []) = simp five
slots_of_take (suc n) (k ∷ a ∷ b ∷ []) = simp five
slots_of_take (suc n) (k ∷ a ∷ b ∷ c ∷ []) = simp five
slots_of_take (suc n) (k ∷ a ∷ b ∷ c ∷ d ∷ w) = simp five (ap (λ (l : List Slot). mk k a b c d ∷ l) (slots_of_take n w))

pub slots_take : (n : ℕ) (w : List ℕ) → slots (take (20 * n) w) ≡ take n (slots w)
unfolding slots
slots_take n w =
    let e : 20 * n ≡ 4 * (5 * n) = omega arith in
    rw (e, words_take) (slots_of_take n (words_of w))

-- the first n slots of a table of any length say every byte of its first 20 * n
pub slots_front : (n : ℕ) (w w' : List ℕ) → Bytes w → Bytes w' → 20 * n ≤ length w → 20 * n ≤ length w' → take n (slots w) ≡ take n (slots w') → take (20 * n) w ≡ take (20 * n) w'
slots_front n w w' s t l k p =
    slots_inj n (take (20 * n) w) (take (20 * n) w') (bytes_take (20 * n) w s) (bytes_take (20 * n) w' t) (length-take-le (20 * n) w l) (length-take-le (20 * n) w' k) (slots_take n w ∙ p ∙ sym (slots_take n w'))
