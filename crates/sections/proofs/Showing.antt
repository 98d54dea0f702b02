-- A result's sections as bytes: the words shown of a slot; a section, one entry after another; the three sections, and the zeros after
-- them. Assumes nothing.
use mathlib.Core.Path.{◌≡◌, refl, ap, ap₂, sym, ◌∙◌}
use mathlib.Core.Bool.{Bool, true, false}
use mathlib.Core.List.{List, [], ◌∷◌, ◌++◌, map, reverse, append_assoc, append-nil, map-map}
use Prim.Native.Nat.{ℕ, ◌+◌, ◌-◌, ◌*◌, ◌≤◌, ◌<◌}
use native.Mathlib.Numerals.{add-one}
use native.Mathlib.Omega.{arith}
use borrow.Author.Tests.{ne_eqb}
use lib.IntN.{ℤ}
use lib.ListN.{length, get_or, drop, replicate, length-append, length-map, length-replicate, replicate-append-replicate}
use lib.Seq.{sets, drop_at}
use mir.Syntax.{w32}
use mir.Val.{to_z, of_z}
use mir.Facts.{of_z-to_z}
use Rattle.table.specs.declared.Slot.{Slot}
use Rattle.table.specs.Words.{word_bytes}
use Rattle.table.specs.Slots.{mk, nil, slots, slot_bytes, asc, desc, zeroed}
use Rattle.table.proofs.Stores.{sets_append, front, word_length}
use Rattle.table.proofs.SlotLists.{word_then}
use Rattle.table.proofs.Moves.{asc_snoc, desc_asc, length_asc}
use Rattle.machine.specs.declared.Value.{Value}
use Rattle.machine.specs.declared.Value.TheVariants.{Number, Identifier, Vector, Operator}
use Rattle.machine.specs.State.{Entry, val, mark}
use Rattle.machine.specs.Page.{bytes_in, value_words, entry_words, all_words, section_words, result_words, result_of, section_bytes}
use Rattle.machine.specs.Promise.{over}
use Rattle.state.specs.declared.Registers.{Registers}
use Rattle.state.specs.Layout.{half, value_in, entry_in, stack_of, values_at, abs, Good}
use Rattle.state.specs.Operations.{entry_or, shown_from}
use Rattle.state.proofs.Coding.{from_identifier, from_vector, from_operator}
use Rattle.state.proofs.Cutting.{map_append, values_rest}
use Rattle.store.proofs.Charging.{map_reverse}

-- ---- a slot as it is shown

abbrev pub value_bytes : Value → List ℕ
value_bytes v = bytes_in (value_words v)

module _ (v : Slot) where
  pub name_shown : v.kind ≡ 2 → slot_bytes (mk 2 v.a v.b v.c 0) ≡ value_bytes (value_in v)
  unfolding slot_bytes word_bytes bytes_in value_words
  name_shown e = ap value_bytes (from_identifier v e)

  pub vector_shown : v.kind ≡ 3 → slot_bytes (mk 3 (half v.a) (half v.b) (half v.c) 0) ≡ value_bytes (value_in v)
  unfolding slot_bytes word_bytes bytes_in value_words
  vector_shown e = ap value_bytes (from_vector v e)

  pub operator_shown : v.kind ≡ 4 → slot_bytes v ≡ value_bytes (value_in v)
  unfolding slot_bytes word_bytes bytes_in value_words
  operator_shown e = ap (λ (k : ℕ). slot_bytes (mk k v.a v.b v.c v.d)) e ∙ ap value_bytes (from_operator v e)

  pub number_shown : (v.kind ≡ 2 → ⊥) → (v.kind ≡ 3 → ⊥) → (v.kind ≡ 4 → ⊥) → v.a < 4294967296 → slot_bytes (mk 1 v.a v.b 0 0) ≡ value_bytes (value_in v)
  unfolding slot_bytes word_bytes bytes_in value_words value_in
  number_shown n₂ n₃ n₄ h =
      let back : of_z w32 (to_z w32 v.a) ≡ v.a = of_z-to_z {w = w32} (record { fits = h }) in
      rw (ne_eqb v.kind 2 n₂, ne_eqb v.kind 3 n₃, ne_eqb v.kind 4 n₄, back)

  pub mark_shown : {marks : Bool} → marks ≡ true → v.kind ≡ 5 → slot_bytes (mk 5 0 0 0 0) ≡ bytes_in (entry_words (entry_or marks v))
  unfolding slot_bytes word_bytes bytes_in entry_words entry_or entry_in
  mark_shown e k = rw (e, k)

  pub value_shown : {marks : Bool} (u : Slot) → marks ≡ true → (v.kind ≡ 5 → ⊥) → slot_bytes u ≡ value_bytes (value_in v) → slot_bytes u ≡ bytes_in (entry_words (entry_or marks v))
  unfolding entry_words entry_or entry_in
  value_shown u e k s = rw (e, ne_eqb v.kind 5 k) s

  pub unmarked_shown : {marks : Bool} (u : Slot) → marks ≡ false → slot_bytes u ≡ value_bytes (value_in v) → slot_bytes u ≡ bytes_in (entry_words (entry_or marks v))
  unfolding entry_words entry_or
  unmarked_shown u e s = rw e s

-- ---- a section, one entry after another

bytes_append : (xs ys : List ℤ) → bytes_in (xs ++ ys) ≡ bytes_in xs ++ bytes_in ys
unfolding bytes_in word_bytes
bytes_append [] ys = refl
bytes_append (x ∷ xs) ys = ap (λ (l : List ℕ). word_bytes (of_z w32 x) ++ l) (bytes_append xs ys)

length_bytes_lem : (zs : List ℤ) → length (bytes_in zs) ≡ 4 * length zs
unfolding bytes_in word_bytes
length_bytes_lem [] = refl
length_bytes_lem (z ∷ zs) = omega (arith, length_bytes_lem zs)

words_append : (xs ys : List Entry) → all_words (xs ++ ys) ≡ all_words xs ++ all_words ys
unfolding all_words
words_append [] ys = refl
words_append (x ∷ xs) ys = ap (λ (l : List ℤ). entry_words x ++ l) (words_append xs ys) ∙ sym (append_assoc (entry_words x) (all_words xs) (all_words ys))

five_words : (e : Entry) → length (entry_words e) ≡ 5
unfolding entry_words value_words
five_words (val (Number a)) = refl
five_words (val (Identifier o s l)) = refl
five_words (val (Vector f l n)) = refl
five_words (val (Operator o s l f)) = refl
five_words (mark k) = refl

length_all : (es : List Entry) → length (all_words es) ≡ 5 * length es
unfolding all_words
length_all [] = refl
length_all (e ∷ es) = length-append (entry_words e) (all_words es) ∙ omega (arith, five_words e, length_all es)

abbrev pub entries_bytes : List Entry → List ℕ
entries_bytes es = bytes_in (all_words es)

abbrev pub section_of : List Entry → List ℕ
section_of es = bytes_in (section_words es)

entries_long : (es : List Entry) → length (entries_bytes es) ≡ 20 * length es
entries_long es = length_bytes_lem (all_words es) ∙ omega (arith, length_all es)

entries_snoc : (es : List Entry) (e : Entry) → entries_bytes (es ++ (e ∷ [])) ≡ entries_bytes es ++ bytes_in (entry_words e)
unfolding all_words
entries_snoc es e = ap bytes_in (words_append es (e ∷ [])) ∙ bytes_append (all_words es) (entry_words e ++ []) ∙ ap (λ (l : List ℤ). entries_bytes es ++ bytes_in l) (append-nil (entry_words e))

module _ (marks : Bool) (m : List Slot) (b : ℕ) where
  length_shown : (n : ℕ) → length (shown_from marks m b n) ≡ n
  unfolding shown_from
  length_shown n = length-map (asc m b n) (entry_or marks) ∙ length_asc m b n

  shown_long : (n : ℕ) → length (entries_bytes (shown_from marks m b n)) ≡ 20 * n
  shown_long n = entries_long (shown_from marks m b n) ∙ ap (λ (k : ℕ). 20 * k) (length_shown n)

  shown_more : (n : ℕ) → shown_from marks m b (n + 1) ≡ shown_from marks m b n ++ (entry_or marks (get_or m (b + n) nil) ∷ [])
  unfolding shown_from
  shown_more n = rw add-one (ap (map (entry_or marks)) (asc_snoc m b n) ∙ map_append (entry_or marks) (asc m b n) (get_or m (b + n) nil ∷ []))

  pub section_none : (t : List ℕ) (p : ℕ) → t ≡ sets t p (entries_bytes (shown_from marks m b 0))
  unfolding shown_from asc all_words bytes_in
  section_none t p = refl

  pub section_more : (t₀ t t' : List ℕ) (p i : ℕ) (v u : Slot) → t ≡ sets t₀ p (entries_bytes (shown_from marks m b i)) → v ≡ get_or m (b + i) nil → slot_bytes u ≡ bytes_in (entry_words (entry_or marks v)) → t' ≡ sets t (p + 20 * i) (slot_bytes u) → t' ≡ sets t₀ p (entries_bytes (shown_from marks m b (i + 1)))
  section_more t₀ t t' p i v u so e s put =
      let es = shown_from marks m b i in
      (rw (so, s, e, ← (shown_long i)) at put) ∙
      sets_append t₀ p (entries_bytes es) (bytes_in (entry_words (entry_or marks (get_or m (b + i) nil)))) ∙
      ap (sets t₀ p) (sym (entries_snoc es (entry_or marks (get_or m (b + i) nil))) ∙ ap entries_bytes (sym (shown_more i)))

  section_is : (n : ℕ) → section_of (shown_from marks m b n) ≡ word_bytes n ++ entries_bytes (shown_from marks m b n)
  unfolding section_words bytes_in
  section_is n = ap (λ (k : ℕ). word_bytes k ++ entries_bytes (shown_from marks m b n)) (length_shown n)

  section_long : (n : ℕ) → length (section_of (shown_from marks m b n)) ≡ 4 + 20 * n
  section_long n = ap length (section_is n) ∙ length-append (word_bytes n) (entries_bytes (shown_from marks m b n)) ∙ ap₂ ◌+◌ (word_length n) (shown_long n)

  pub section_whole : (t t₁ t₂ : List ℕ) (p n c i : ℕ) → c ≡ n → t₁ ≡ sets t p (word_bytes c) → i ≡ n → t₂ ≡ sets t₁ (p + 4) (entries_bytes (shown_from marks m b i)) → t₂ ≡ sets t p (section_of (shown_from marks m b n))
  section_whole t t₁ t₂ p n c i ec counted ei put =
      (rw (counted, ec, ei) at put) ∙
      word_then t p (p + 4) n (entries_bytes (shown_from marks m b n)) refl ∙
      ap (sets t p) (sym (section_is n))

-- ---- the three sections

stack_shown : (m : List Slot) (n : ℕ) → shown_from true m 0 n ≡ reverse (stack_of m n)
unfolding shown_from stack_of entry_or
stack_shown m n = ap (map entry_in) (desc_asc m 0 n) ∙ sym (map_reverse entry_in (desc m 0 n))

values_shown : (m : List Slot) (b n : ℕ) → shown_from false m b n ≡ map val (values_at m b n)
unfolding shown_from values_at entry_or
values_shown m b n = sym (map-map val value_in (asc m b n))

-- zeros stay after what is stored over them
zeros_after : (n : ℕ) (b t : List ℕ) → length b ≤ n → n ≤ length t → sets (zeroed n t) 0 b ≡ over (b ++ replicate (n - length b) 0) t
unfolding zeroed over
zeros_after n b t h l =
    let k = length b in
    let zeros : ℕ → List ℕ = λ j. replicate j 0 in
    let r = drop n t in
    let e : k + (n - k) ≡ n = omega arith in
    let cut : zeros n ++ r ≡ zeros k ++ (zeros (n - k) ++ r) = ap (λ j. zeros j ++ r) (sym e) ∙ ap (λ x. x ++ r) (sym (replicate-append-replicate k (n - k) 0)) ∙ append_assoc (zeros k) (zeros (n - k)) r in
    let long : k ≤ length (zeros n ++ r) = omega (arith, length-append (zeros n) r, length-replicate {A = ℕ} n 0) in
    let whole : length (b ++ zeros (n - k)) ≡ n = length-append b (zeros (n - k)) ∙ omega (arith, length-replicate {A = ℕ} (n - k) 0) in
    front (zeros n ++ r) b long ∙
    ap (λ x. b ++ drop k x) cut ∙
    ap (λ x. b ++ x) (drop_at (zeros k) (zeros (n - k) ++ r) k (length-replicate k 0)) ∙
    sym (append_assoc b (zeros (n - k)) r) ∙
    ap (λ j. (b ++ zeros (n - k)) ++ drop j t) (sym whole)

abbrev pub stack_part : List ℕ → Registers → List ℕ
stack_part w q = section_of (shown_from true (slots w) 0 q.height)

abbrev pub frame_part : List ℕ → List ℕ
frame_part w = section_of (shown_from false (slots w) 128 50)

abbrev pub cells_part : List ℕ → Registers → ℕ → List ℕ
cells_part w q before = section_of (shown_from false (slots w) (728 + before) (q.used - before))

module _ (w : List ℕ) (q : Registers) (before : ℕ) (good : Good w q) (h : before ≤ q.used) where
  parts : bytes_in (result_words (result_of before (abs w q))) ≡ stack_part w q ++ (frame_part w ++ cells_part w q before)
  unfolding result_words result_of
  parts =
      bytes_append (section_words (reverse (stack_of (slots w) q.height))) _ ∙
      ap₂ ◌++◌ (ap section_of (sym (stack_shown (slots w) q.height)))
      (bytes_append (section_words (map val (values_at (slots w) 128 50))) _ ∙
      ap₂ ◌++◌ (ap section_of (sym (values_shown (slots w) 128 50)))
      (ap (λ l. section_of (map val l)) (values_rest (slots w) 728 before q.used h) ∙
      ap section_of (sym (values_shown (slots w) (728 + before) (q.used - before)))))

  pub sections_put : (t t₁ t₂ t₃ t₄ : List ℕ) (a b : ℕ) → 24052 ≤ length t → t₁ ≡ zeroed 24052 t
      → a ≡ 0 + 4 + 20 * q.height → t₂ ≡ sets t₁ 0 (stack_part w q)
      → b ≡ a + 4 + 20 * 50 → t₃ ≡ sets t₂ a (frame_part w)
      → t₄ ≡ sets t₃ b (cells_part w q before)
      → t₄ ≡ over (section_bytes (result_of before (abs w q))) t
  unfolding section_bytes
  sections_put t t₁ t₂ t₃ t₄ a b room e₁ ea e₂ eb e₃ e₄ =
      let x = stack_part w q in
      let y = frame_part w in
      let z = cells_part w q before in
      let lx = section_long true (slots w) 0 q.height in
      let ly = section_long false (slots w) 128 50 in
      let lz = section_long false (slots w) (728 + before) (q.used - before) in
      let a' : a ≡ 0 + length x = omega arith in
      let b' : b ≡ 0 + length (x ++ y) = omega (arith, length-append x y) in
      let all : bytes_in (result_words (result_of before (abs w q))) ≡ (x ++ y) ++ z = parts ∙ sym (append_assoc x y z) in
      let fits : length (bytes_in (result_words (result_of before (abs w q)))) ≤ 24052 = rw all (omega (arith, length-append (x ++ y) z, length-append x y, good.stack_fits, good.cells_fit)) in
      (rw (e₃, e₂, e₁, b', a') at e₄) ∙
      ap (λ l. sets l (0 + length (x ++ y)) z) (sets_append (zeroed 24052 t) 0 x y) ∙
      sets_append (zeroed 24052 t) 0 (x ++ y) z ∙
      ap (sets (zeroed 24052 t) 0) (sym all) ∙
      zeros_after 24052 (bytes_in (result_words (result_of before (abs w q)))) t fits room
