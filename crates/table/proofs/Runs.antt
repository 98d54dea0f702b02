-- A run of bytes moved within a table: where both places are whole slots it is the slots that are copied. Assumes nothing.
use mathlib.Core.Path.{◌≡◌, refl, ap, ◌∙◌}
use mathlib.Core.Logic.{◌≢◌}
use mathlib.Core.List.{List, [], ◌∷◌}
use Prim.Native.Nat.{ℕ, zero, suc, ◌+◌, ◌*◌, ◌≤◌}
use native.Mathlib.Nat.{add-zero, add-suc, add_assoc, mul-suc, mul-add}
use native.Mathlib.Omega.{arith}
use native.Mathlib.Numerals.{towards_suc}
use lib.ListN.{length, get_or, set, length-set}
use lib.Seq.{sets, get_or-set_other}
use Rattle.table.specs.Words.{word_at}
use Rattle.table.specs.Slots.{words_of, slots, slots_of, nil, mk, copied}
use Rattle.table.proofs.WordLists.{fill_words, get_words, set_words}
use Rattle.table.proofs.SlotLists.{get_slots_of, put_slots_of}

-- the elements at s, s + 1, .. put to d, d + 1, .., one after the other
unfoldable pub moved : List ℕ → ℕ → ℕ → ℕ → List ℕ
moved w s d zero = w
moved w s d (suc n) = set (moved w s d n) (d + n) (get_or (moved w s d n) (s + n) 0)

length_moved : (w : List ℕ) (s d n : ℕ) → length (moved w s d n) ≡ length w
unfolding moved
length_moved w s d zero = refl
length_moved w s d (suc n) = simp length-set (length_moved w s d n)

moved_more : (w : List ℕ) (s d a n : ℕ) → moved w s d (a + n) ≡ moved (moved w s d a) (s + a) (d + a) n
unfolding moved
moved_more w s d a zero = simp add-zero
moved_more w s d a (suc n) = simp (add-suc, moved_more w s d a n, add_assoc)

-- a run of n units of u elements, and one unit more
moved_unit : (u : ℕ) (w : List ℕ) (s d n : ℕ) → moved w (u * s) (u * d) (u * suc n) ≡ moved (moved w (u * s) (u * d) (u * n)) (u * (s + n)) (u * (d + n)) u
moved_unit u w s d n = rw (mul-suc u n, mul-add u s n, mul-add u d n) (moved_more w (u * s) (u * d) (u * n) u)

-- ---- four bytes are a word: none is read where one of the four was put before, since both places are multiples of four

word_moved : (i j : ℕ) (w : List ℕ) → 4 * i + 4 ≤ length w → 4 * j + 4 ≤ length w → words_of (moved w (4 * i) (4 * j) 4) ≡ set (words_of w) j (get_or (words_of w) i 0)
unfolding moved word_at
word_moved i j w f h =
    let n₁ : 4 * i + 1 ≢ 4 * j = λ e. omega arith in
    let n₂ : 4 * i + 2 ≢ 4 * j = λ e. omega arith in
    let n₃ : 4 * i + 2 ≢ 4 * j + 1 = λ e. omega arith in
    let n₄ : 4 * i + 3 ≢ 4 * j = λ e. omega arith in
    let n₅ : 4 * i + 3 ≢ 4 * j + 1 = λ e. omega arith in
    let n₆ : 4 * i + 3 ≢ 4 * j + 2 = λ e. omega arith in
    let four : moved w (4 * i) (4 * j) 4 ≡ sets w (4 * j) (get_or w (4 * i) 0 ∷ get_or w (4 * i + 1) 0 ∷ get_or w (4 * i + 2) 0 ∷ get_or w (4 * i + 3) 0 ∷ []) = simp (add-zero, get_or-set_other) (simp towards_suc) in
    ap words_of four ∙ set_words j w _ _ _ _ h ∙ ap (set (words_of w) j) (get_words i w f)

words_moved : (w : List ℕ) (s d n : ℕ) → 4 * (s + n) ≤ length w → 4 * (d + n) ≤ length w → words_of (moved w (4 * s) (4 * d) (4 * n)) ≡ moved (words_of w) s d n
unfolding moved
words_moved w s d zero f h = refl
words_moved w s d (suc n) f h =
    let l = length_moved w (4 * s) (4 * d) (4 * n) in
    ap words_of (moved_unit 4 w s d n) ∙
    word_moved (s + n) (d + n) (moved w (4 * s) (4 * d) (4 * n)) (omega arith) (omega arith) ∙
    rw (words_moved w s d n (omega arith) (omega arith))

-- ---- five words are a slot, by multiples of five

slot_moved : (i j : ℕ) (w : List ℕ) → 5 * i + 5 ≤ length w → 5 * j + 5 ≤ length w → slots_of (moved w (5 * i) (5 * j) 5) ≡ set (slots_of w) j (get_or (slots_of w) i nil)
unfolding moved
slot_moved i j w f h =
    let n₁ : 5 * i + 1 ≢ 5 * j = λ e. omega arith in
    let n₂ : 5 * i + 2 ≢ 5 * j = λ e. omega arith in
    let n₃ : 5 * i + 2 ≢ 5 * j + 1 = λ e. omega arith in
    let n₄ : 5 * i + 3 ≢ 5 * j = λ e. omega arith in
    let n₅ : 5 * i + 3 ≢ 5 * j + 1 = λ e. omega arith in
    let n₆ : 5 * i + 3 ≢ 5 * j + 2 = λ e. omega arith in
    let n₇ : 5 * i + 4 ≢ 5 * j = λ e. omega arith in
    let n₈ : 5 * i + 4 ≢ 5 * j + 1 = λ e. omega arith in
    let n₉ : 5 * i + 4 ≢ 5 * j + 2 = λ e. omega arith in
    let n₀ : 5 * i + 4 ≢ 5 * j + 3 = λ e. omega arith in
    simp (add-zero, get_or-set_other, ← get_slots_of i w f) (put_slots_of j w (mk (get_or w (5 * i) 0) (get_or w (5 * i + 1) 0) (get_or w (5 * i + 2) 0) (get_or w (5 * i + 3) 0) (get_or w (5 * i + 4) 0)) h)

slots_of_moved : (w : List ℕ) (s d n : ℕ) → 5 * (s + n) ≤ length w → 5 * (d + n) ≤ length w → slots_of (moved w (5 * s) (5 * d) (5 * n)) ≡ copied (slots_of w) s d n
unfolding moved copied
slots_of_moved w s d zero f h = refl
slots_of_moved w s d (suc n) f h =
    let l = length_moved w (5 * s) (5 * d) (5 * n) in
    ap slots_of (moved_unit 5 w s d n) ∙
    slot_moved (s + n) (d + n) (moved w (5 * s) (5 * d) (5 * n)) (omega arith) (omega arith) ∙
    rw (slots_of_moved w s d n (omega arith) (omega arith))

-- ---- the bytes of n slots moved are the slots copied

pub slots_moved : (w : List ℕ) (s d n : ℕ) → 20 * (s + n) ≤ length w → 20 * (d + n) ≤ length w → slots (moved w (20 * s) (20 * d) (20 * n)) ≡ copied (slots w) s d n
unfolding slots
slots_moved w s d n f h =
    let a : 20 * s ≡ 4 * (5 * s) = omega arith in
    let b : 20 * d ≡ 4 * (5 * d) = omega arith in
    let c : 20 * n ≡ 4 * (5 * n) = omega arith in
    let l = fill_words w in
    rw (a, b, c, words_moved w (5 * s) (5 * d) (5 * n) (omega arith) (omega arith)) (slots_of_moved (words_of w) s d n (omega arith) (omega arith))
