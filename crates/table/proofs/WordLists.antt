-- The words of a table: four bytes at 4 * i are the word at i; the words pin every byte; a front of the table. Assumes nothing.
use mathlib.Core.Path.{◌≡◌, refl, ap, ◌∙◌}
use mathlib.Core.List.{List, [], ◌∷◌}
use Prim.Native.Nat.{ℕ, zero, suc, ◌+◌, ◌-◌, ◌*◌, ◌/◌, ◌%◌, ◌^◌, ◌≤◌, ◌<◌}
use native.Mathlib.Omega.{arith}
use native.Mathlib.Numerals.{towards_suc}
use lib.ListN.{length, get_or, set, take}
use lib.Seq.{sets}
use Rattle.table.specs.Words.{word_of, word_at, word_bytes}
use Rattle.table.specs.Slots.{words_of}
use Rattle.table.proofs.Stores.{word_joined}

four : (i : ℕ) → 4 * suc i ≡ suc (suc (suc (suc (4 * i))))
four i = omega arith

pub fill_words : (w : List ℕ) → length w < 4 * length (words_of w) + 4
unfolding words_of
fill_words [] = omega arith
fill_words (a ∷ []) = omega arith
fill_words (a ∷ b ∷ []) = omega arith
fill_words (a ∷ b ∷ c ∷ []) = omega arith
fill_words (a ∷ b ∷ c ∷ d ∷ w) = omega (arith, fill_words w)

pub length_words : (w : List ℕ) → 4 * length (words_of w) ≤ length w
unfolding words_of
length_words [] = omega arith
length_words (a ∷ []) = omega arith
length_words (a ∷ b ∷ []) = omega arith
length_words (a ∷ b ∷ c ∷ []) = omega arith
length_words (a ∷ b ∷ c ∷ d ∷ w) = omega (arith, length_words w)

pub get_words : (i : ℕ) (w : List ℕ) → 4 * i + 4 ≤ length w → word_at w (4 * i) ≡ get_or (words_of w) i 0
unfolding words_of word_at
get_words i [] h = absurd (omega arith)
get_words i (a ∷ []) h = absurd (omega arith)
get_words i (a ∷ b ∷ []) h = absurd (omega arith)
get_words i (a ∷ b ∷ c ∷ []) h = absurd (omega arith)
get_words zero (a ∷ b ∷ c ∷ d ∷ w) h = refl
get_words (suc i) (a ∷ b ∷ c ∷ d ∷ w) h = simp (four, towards_suc) (simp towards_suc at (get_words i w (omega arith)))

pub set_words : (i : ℕ) (w : List ℕ) (x y z u : ℕ) → 4 * i + 4 ≤ length w → words_of (sets w (4 * i) (x ∷ y ∷ z ∷ u ∷ [])) ≡ set (words_of w) i (word_of x y z u)
unfolding words_of
set_words i [] x y z u h = absurd (omega arith)
set_words i (a ∷ []) x y z u h = absurd (omega arith)
set_words i (a ∷ b ∷ []) x y z u h = absurd (omega arith)
set_words i (a ∷ b ∷ c ∷ []) x y z u h = absurd (omega arith)
set_words zero (a ∷ b ∷ c ∷ d ∷ w) x y z u h = refl
set_words (suc i) (a ∷ b ∷ c ∷ d ∷ w) x y z u h = simp four (ap (λ (l : List ℕ). word_of a b c d ∷ l) (set_words i w x y z u (omega arith)))

pub put_words : (i : ℕ) (w : List ℕ) (x : ℕ) → x < 2 ^ 32 → 4 * i + 4 ≤ length w → words_of (sets w (4 * i) (word_bytes x)) ≡ set (words_of w) i x
unfolding word_bytes
put_words i w x f h = set_words i w (x % 256) (x / 256 % 256) (x / 65536 % 256) (x / 16777216 % 256) h ∙ ap (set (words_of w) i) (word_joined x f)

-- each element is a byte
abbrev pub Bytes : List ℕ → Type 0
Bytes w = (i : ℕ) → get_or w i 0 < 256

digit : (a m a' m' : ℕ) → a < 256 → a' < 256 → a + m * 256 ≡ a' + m' * 256 → (a ≡ a') × (m ≡ m')
digit a m a' m' s t e = (omega arith, omega arith)

-- the words say every byte of a table whose length is a multiple of four
pub words_inj : (n : ℕ) (w w' : List ℕ) → Bytes w → Bytes w' → length w ≡ 4 * n → length w' ≡ 4 * n → words_of w ≡ words_of w' → w ≡ w'
unfolding words_of
words_inj n [] [] s t e f p = refl
words_inj n [] (x ∷ w') s t e f p = absurd (omega arith)
words_inj n (a ∷ []) w' s t e f p = absurd (omega arith)
words_inj n (a ∷ b ∷ []) w' s t e f p = absurd (omega arith)
words_inj n (a ∷ b ∷ c ∷ []) w' s t e f p = absurd (omega arith)
words_inj n (a ∷ b ∷ c ∷ d ∷ w) [] s t e f p = absurd (omega arith)
words_inj n (a ∷ b ∷ c ∷ d ∷ w) (a' ∷ []) s t e f p = absurd (omega arith)
words_inj n (a ∷ b ∷ c ∷ d ∷ w) (a' ∷ b' ∷ []) s t e f p = absurd (omega arith)
words_inj n (a ∷ b ∷ c ∷ d ∷ w) (a' ∷ b' ∷ c' ∷ []) s t e f p = absurd (omega arith)
words_inj n (a ∷ b ∷ c ∷ d ∷ w) (a' ∷ b' ∷ c' ∷ d' ∷ w') s t e f p =
    let h : word_of a b c d ≡ word_of a' b' c' d' = cc in
    let l : words_of w ≡ words_of w' = cc in
    let r : w ≡ w' = words_inj (n - 1) w w' (λ i. s (suc (suc (suc (suc i))))) (λ i. t (suc (suc (suc (suc i))))) (omega arith) (omega arith) l in
    let s₀ : a < 256 = s 0 in
    let s₁ : b < 256 = s 1 in
    let s₂ : c < 256 = s 2 in
    let t₀ : a' < 256 = t 0 in
    let t₁ : b' < 256 = t 1 in
    let t₂ : c' < 256 = t 2 in
    let m₀ = digit a (b + c * 256 + d * 65536) a' (b' + c' * 256 + d' * 65536) s₀ t₀ (omega arith) in
    let m₁ = digit b (c + d * 256) b' (c' + d' * 256) s₁ t₁ (omega arith) in
    let m₂ = digit c d c' d' s₂ t₂ (omega arith) in
    let e₀ : a ≡ a' = m₀.0 in
    let e₁ : b ≡ b' = m₁.0 in
    let e₂ : c ≡ c' = m₂.0 in
    let e₃ : d ≡ d' = m₂.1 in
    cc

pub bytes_take : (k : ℕ) (w : List ℕ) → Bytes w → Bytes (take k w)
bytes_take zero w s i = omega arith
bytes_take (suc k) [] s i = omega arith
bytes_take (suc k) (x ∷ w) s zero = s 0
bytes_take (suc k) (x ∷ w) s (suc i) = bytes_take k w (λ j. s (suc j)) i

pub words_take : (n : ℕ) (w : List ℕ) → words_of (take (4 * n) w) ≡ take n (words_of w)
unfolding words_of
words_take zero w = refl
words_take (suc n) [] = simp four
words_take (suc n) (a ∷ []) = simp four
words_take (suc n) (a ∷ b ∷ []) = simp four
words_take (suc n) (a ∷ b ∷ c ∷ []) = simp four
words_take (suc n) (a ∷ b ∷ c ∷ d ∷ w) = simp four (ap (λ (l : List ℕ). word_of a b c d ∷ l) (words_take n w))
