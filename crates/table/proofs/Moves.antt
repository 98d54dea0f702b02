-- What a store and a copy leave of each part of a list of slots, and what they make; a part cut in two; a table cleared. Assumes nothing.
use mathlib.Core.Path.{◌≡◌, refl, ap, ap₂, sym, ◌∙◌}
use mathlib.Core.Logic.{◌⊎◌, inl, inr, ◌≢◌}
use mathlib.Core.List.{List, [], ◌∷◌, ◌++◌, reverse, reverse-cons}
use Prim.Native.Nat.{ℕ, zero, suc, ◌+◌, ◌-◌, ◌*◌, ◌≤◌, ◌<◌}
use native.Mathlib.Nat.{add-zero, add-suc, suc-add, zero-add, add_assoc, sub-add_cancel}
use native.Mathlib.Numerals.{add-one}
use native.Mathlib.Omega.{arith}
use native.Mathlib.Decide.{ℕ_discrete}
use lib.ListN.{length, get_or, set, take, drop, length-set, replicate}
use lib.Seq.{get_or-set_same, get_or-set_other, take_at, drop_at}
use Rattle.table.specs.declared.Slot.{Slot}
use Rattle.table.specs.Slots.{words_of, slots_of, slots, nil, asc, desc, copied, rolled, zeroed}

-- ---- one congruence for each reader: all else is about single slots

pub asc_cong : (n b b' : ℕ) (m m' : List Slot) → ((i : ℕ) → i < n → get_or m (b + i) nil ≡ get_or m' (b' + i) nil) → asc m b n ≡ asc m' b' n
unfolding asc
asc_cong zero b b' m m' h = refl
asc_cong (suc n) b b' m m' h =
    ap₂ ◌∷◌ (simp add-zero at (h 0 (omega arith)))
    (asc_cong n (suc b) (suc b') m m' (λ i l. simp suc-add (simp add-suc at (h (suc i) (omega arith)))))

pub desc_cong : (n b b' : ℕ) (m m' : List Slot) → ((i : ℕ) → i < n → get_or m (b + i) nil ≡ get_or m' (b' + i) nil) → desc m b n ≡ desc m' b' n
unfolding desc
desc_cong zero b b' m m' h = refl
desc_cong (suc n) b b' m m' h = ap₂ ◌∷◌ (h n (omega arith)) (desc_cong n b b' m m' (λ i l. h i (omega arith)))

-- ---- a copy, slot by slot

pub length_copied : (m : List Slot) (s d n : ℕ) → length (copied m s d n) ≡ length m
unfolding copied
length_copied m s d zero = refl
length_copied m s d (suc n) = simp length-set (length_copied m s d n)

-- outside of where it puts them nothing changes
pub copied_out : (m : List Slot) (s d n k : ℕ) → (k < d) ⊎ (d + n ≤ k) → get_or (copied m s d n) k nil ≡ get_or m k nil
unfolding copied
copied_out m s d zero k o = refl
copied_out m s d (suc n) k (inl l) =
    let ne : k ≢ d + n = λ e. omega arith in
    rw get_or-set_other (copied_out m s d n k (inl l))
copied_out m s d (suc n) k (inr l) =
    let ne : k ≢ d + n = λ e. omega arith in
    rw get_or-set_other (copied_out m s d n k (inr (omega arith)))

-- a copy that goes up by one value at a time is right where the parts do not meet, or where it goes down
abbrev pub Apart : ℕ → ℕ → ℕ → Type 0
Apart s d n = (s + n ≤ d) ⊎ (d ≤ s)

apart_less : (s d n : ℕ) → Apart s d (suc n) → Apart s d n
apart_less s d n (inl l) = inl (omega arith)
apart_less s d n (inr l) = inr (omega arith)

apart_out : (s d n : ℕ) → Apart s d (suc n) → (s + n < d) ⊎ (d + n ≤ s + n)
apart_out s d n (inl l) = inl (omega arith)
apart_out s d n (inr l) = inr (omega arith)

-- inside stands what was at the source, where the two do not meet
pub copied_in : (m : List Slot) (s d n i : ℕ) → d + n ≤ length m → Apart s d n → i < n → get_or (copied m s d n) (d + i) nil ≡ get_or m (s + i) nil
unfolding copied
copied_in m s d zero i f o l = absurd (omega arith)
copied_in m s d (suc n) i f o l = go (ℕ_discrete i n) (λ h. copied_in m s d n i (omega arith) (apart_less s d n o) h)
  where
    go : Dec (i ≡ n) → (i < n → get_or (copied m s d n) (d + i) nil ≡ get_or m (s + i) nil) → get_or (set (copied m s d n) (d + n) (get_or (copied m s d n) (s + n) nil)) (d + i) nil ≡ get_or m (s + i) nil
    go (yes e) ih =
        let f' : d + n < length (copied m s d n) = rw length_copied (omega arith) in
        rw (e, get_or-set_same) (copied_out m s d n (s + n) (apart_out s d n o))
    go (no ne) ih =
        let ne' : d + i ≢ d + n = λ e. ne (omega arith) in
        rw get_or-set_other (ih (omega arith))

-- ---- what is read of a part that a store or a copy does not touch

set_out : (m : List Slot) (k b n i : ℕ) (v : Slot) → (k < b) ⊎ (b + n ≤ k) → i < n → get_or (set m k v) (b + i) nil ≡ get_or m (b + i) nil
set_out m k b n i v (inl l) h = get_or-set_other m k (b + i) v nil (λ e. omega arith)
set_out m k b n i v (inr l) h = get_or-set_other m k (b + i) v nil (λ e. omega arith)

pub asc_set : (m : List Slot) (k b n : ℕ) (v : Slot) → (k < b) ⊎ (b + n ≤ k) → asc (set m k v) b n ≡ asc m b n
asc_set m k b n v o = asc_cong n b b (set m k v) m (λ i h. set_out m k b n i v o h)

pub desc_set : (m : List Slot) (k b n : ℕ) (v : Slot) → (k < b) ⊎ (b + n ≤ k) → desc (set m k v) b n ≡ desc m b n
desc_set m k b n v o = desc_cong n b b (set m k v) m (λ i h. set_out m k b n i v o h)

copy_out : (m : List Slot) (s d j b n i : ℕ) → (d + j ≤ b) ⊎ (b + n ≤ d) → i < n → get_or (copied m s d j) (b + i) nil ≡ get_or m (b + i) nil
copy_out m s d j b n i (inl l) h = copied_out m s d j (b + i) (inr (omega arith))
copy_out m s d j b n i (inr l) h = copied_out m s d j (b + i) (inl (omega arith))

pub asc_copied : (m : List Slot) (s d j b n : ℕ) → (d + j ≤ b) ⊎ (b + n ≤ d) → asc (copied m s d j) b n ≡ asc m b n
asc_copied m s d j b n o = asc_cong n b b (copied m s d j) m (λ i h. copy_out m s d j b n i o h)

pub desc_copied : (m : List Slot) (s d j b n : ℕ) → (d + j ≤ b) ⊎ (b + n ≤ d) → desc (copied m s d j) b n ≡ desc m b n
desc_copied m s d j b n o = desc_cong n b b (copied m s d j) m (λ i h. copy_out m s d j b n i o h)

-- ---- what is read of a part that a store or a copy made

pub desc_push : (m : List Slot) (b n : ℕ) (v : Slot) → b + n < length m → desc (set m (b + n) v) b (suc n) ≡ v ∷ desc m b n
unfolding desc
desc_push m b n v f = ap₂ ◌∷◌ (get_or-set_same m (b + n) v nil f) (desc_set m (b + n) b n v (inr (omega arith)))

pub asc_moved : (m : List Slot) (s d n : ℕ) → d + n ≤ length m → Apart s d n → asc (copied m s d n) d n ≡ asc m s n
asc_moved m s d n f o = asc_cong n d s (copied m s d n) m (λ i h. copied_in m s d n i f o h)

pub desc_moved : (m : List Slot) (s d n : ℕ) → d + n ≤ length m → Apart s d n → desc (copied m s d n) d n ≡ desc m s n
desc_moved m s d n f o = desc_cong n d s (copied m s d n) m (λ i h. copied_in m s d n i f o h)

-- ---- a part cut in two

pub asc_cut : (m : List Slot) (b a n : ℕ) → asc m b (a + n) ≡ asc m b a ++ asc m (b + a) n
unfolding asc
asc_cut m b zero n = simp (zero-add, add-zero)
asc_cut m b (suc a) n = simp suc-add (ap (λ (l : List Slot). get_or m b nil ∷ l) (simp (suc-add, ← add-suc) at (asc_cut m (suc b) a n)))

pub desc_cut : (m : List Slot) (b a n : ℕ) → desc m b (a + n) ≡ desc m (b + a) n ++ desc m b a
unfolding desc
desc_cut m b a zero = simp add-zero
desc_cut m b a (suc n) = simp add-suc (ap₂ ◌∷◌ (simp add_assoc) (desc_cut m b a n))

pub length_asc : (m : List Slot) (b n : ℕ) → length (asc m b n) ≡ n
unfolding asc
length_asc m b zero = refl
length_asc m b (suc n) = ap suc (length_asc m (suc b) n)

pub length_desc : (m : List Slot) (b n : ℕ) → length (desc m b n) ≡ n
unfolding desc
length_desc m b zero = refl
length_desc m b (suc n) = ap suc (length_desc m b n)

-- the n on top, and what lies under them
pub desc_take : (m : List Slot) (b a n : ℕ) → take n (desc m b (a + n)) ≡ desc m (b + a) n
desc_take m b a n = rw desc_cut (take_at (desc m (b + a) n) (desc m b a) n (length_desc m (b + a) n))

pub desc_drop : (m : List Slot) (b a n : ℕ) → drop n (desc m b (a + n)) ≡ desc m b a
desc_drop m b a n = rw desc_cut (drop_at (desc m (b + a) n) (desc m b a) n (length_desc m (b + a) n))

pub asc_snoc : (m : List Slot) (b n : ℕ) → asc m b (suc n) ≡ asc m b n ++ (get_or m (b + n) nil ∷ [])
unfolding asc
asc_snoc m b n = rw add-one at (asc_cut m b n 1)

pub desc_asc : (m : List Slot) (b n : ℕ) → asc m b n ≡ reverse (desc m b n)
unfolding asc desc
desc_asc m b zero = refl
desc_asc m b (suc n) = asc_snoc m b n ∙ rw (desc_asc m b n) (sym (reverse-cons (get_or m (b + n) nil) (desc m b n)))

-- ---- a part of what a copy made; a store within a part; a slot of a part

pub desc_within : (m : List Slot) (s d n p k : ℕ) → d + n ≤ length m → Apart s d n → p + k ≤ n → desc (copied m s d n) (d + p) k ≡ desc m (s + p) k
desc_within m s d n p k f o h =
    desc_cong k (d + p) (s + p) (copied m s d n) m (λ i l. rw (add_assoc d p i, add_assoc s p i) (copied_in m s d n (p + i) f o (omega arith)))

pub asc_store : (m : List Slot) (b n i : ℕ) (v : Slot) → i < n → b + i < length m → asc (set m (b + i) v) b n ≡ set (asc m b n) i v
unfolding asc
asc_store m b zero i v l f = absurd (omega arith)
asc_store m b (suc n) zero v l f =
    let f' : b < length m = omega arith in
    ap (λ k. asc (set m k v) b (suc n)) (add-zero b) ∙ ap₂ ◌∷◌ (get_or-set_same m b v nil f') (asc_set m b (suc b) n v (inl (omega arith)))
asc_store m b (suc n) (suc i) v l f =
    ap₂ ◌∷◌ (get_or-set_other m (b + suc i) b v nil (λ e. omega arith))
    (simp (suc-add, ← add-suc) at (asc_store m (suc b) n i v (omega arith) (omega arith)))

pub get_or_asc : (m : List Slot) (b n i : ℕ) → i < n → get_or (asc m b n) i nil ≡ get_or m (b + i) nil
unfolding asc
get_or_asc m b zero i l = absurd (omega arith)
get_or_asc m b (suc n) zero l = rw add-zero
get_or_asc m b (suc n) (suc i) l = simp (suc-add, ← add-suc) at (get_or_asc m (suc b) n i (omega arith))

-- ---- a stack: a part that begins at 0

pub stack_push : (m : List Slot) (n : ℕ) (v : Slot) → n < length m → desc (set m n v) 0 (n + 1) ≡ v ∷ desc m 0 n
stack_push m n v f = rw add-one (rw zero-add at (desc_push m 0 n v (omega arith)))

pub stack_pop : (m : List Slot) (n : ℕ) → 0 < n → desc m 0 n ≡ get_or m (n - 1) nil ∷ desc m 0 (n - 1)
unfolding desc
stack_pop m n h =
    let e : n ≡ suc (n - 1) = omega arith in
    ap (λ (k : ℕ). desc m 0 k) e ∙ rw zero-add

pub stack_cut : (m : List Slot) (a n : ℕ) → desc m 0 (a + n) ≡ desc m a n ++ desc m 0 a
stack_cut m a n = rw zero-add at (desc_cut m 0 a n)

pub stack_take : (m : List Slot) (n sp : ℕ) → n ≤ sp → take n (desc m 0 sp) ≡ desc m (sp - n) n
stack_take m n sp h = rw (sub-add_cancel h, zero-add) at (desc_take m 0 (sp - n) n)

pub stack_drop : (m : List Slot) (n sp : ℕ) → n ≤ sp → drop n (desc m 0 sp) ≡ desc m 0 (sp - n)
stack_drop m n sp h = rw (sub-add_cancel h) at (desc_drop m 0 (sp - n) n)

-- ---- a roll of the top n

pub roll_stack : (m : List Slot) (a n j t : ℕ) → j ≤ n → a + n ≤ t → t + n ≤ length m → desc (rolled m a n j t) 0 (a + n) ≡ desc m a (n - j) ++ (desc m (a + (n - j)) j ++ desc m 0 a)
roll_stack m a n j t h q f =
    let m1 = copied m a t n in
    let m2 = copied m1 (t + (n - j)) a j in
    let e : a + n ≡ (a + j) + (n - j) = omega arith in
    let l1 = length_copied m a t n in
    let l2 = length_copied m1 (t + (n - j)) a j in
    ap (λ (k : ℕ). desc (rolled m a n j t) 0 k) e ∙
    stack_cut (rolled m a n j t) (a + j) (n - j) ∙
    ap₂ ◌++◌
    (desc_moved m2 t (a + j) (n - j) (omega arith) (inr (omega arith)) ∙
    desc_copied m1 (t + (n - j)) a j t (n - j) (inl (omega arith)) ∙
    (simp add-zero at (desc_within m a t n 0 (n - j) f (inl q) (omega arith))))
    (stack_cut (rolled m a n j t) a j ∙
    ap₂ ◌++◌
    (desc_copied m2 t (a + j) (n - j) a j (inr (omega arith)) ∙
    desc_moved m1 (t + (n - j)) a j (omega arith) (inr (omega arith)) ∙
    desc_within m a t n (n - j) j f (inl q) (omega arith))
    (desc_copied m2 t (a + j) (n - j) 0 a (inr (omega arith)) ∙
    desc_copied m1 (t + (n - j)) a j 0 a (inr (omega arith)) ∙
    desc_copied m a t n 0 a (inr (omega arith))))

pub part_take : (m : List Slot) (b j n : ℕ) → j ≤ n → take j (desc m b n) ≡ desc m (b + (n - j)) j
part_take m b j n h = rw (sub-add_cancel h) at (desc_take m b (n - j) j)

pub part_drop : (m : List Slot) (b j n : ℕ) → j ≤ n → drop j (desc m b n) ≡ desc m b (n - j)
part_drop m b j n h = rw (sub-add_cancel h) at (desc_drop m b (n - j) j)

pub get_or_desc : (m : List Slot) (n i : ℕ) → i < n → get_or (desc m 0 n) i nil ≡ get_or m (n - suc i) nil
unfolding desc
get_or_desc m zero i h = absurd (omega arith)
get_or_desc m (suc n) zero h = let e : suc n - 1 ≡ 0 + n = omega arith in rw e
get_or_desc m (suc n) (suc i) h =
    let e : suc n - suc (suc i) ≡ n - suc i = omega arith in
    rw e (get_or_desc m n i (omega arith))

-- ---- two lists agree from a to b

abbrev pub Same : List Slot → List Slot → ℕ → ℕ → Type 0
Same m m' a b = (k : ℕ) → a ≤ k → k < b → get_or m k nil ≡ get_or m' k nil

pub same_set : (m : List Slot) (i : ℕ) (v : Slot) (a b : ℕ) → (i < a) ⊎ (b ≤ i) → Same (set m i v) m a b
same_set m i v a b (inl l) k f t = get_or-set_other m i k v nil (λ e. omega arith)
same_set m i v a b (inr l) k f t = get_or-set_other m i k v nil (λ e. omega arith)

pub same_copied : (m : List Slot) (s d n a b : ℕ) → (d + n ≤ a) ⊎ (b ≤ d) → Same (copied m s d n) m a b
same_copied m s d n a b (inl l) k f t = copied_out m s d n k (inr (omega arith))
same_copied m s d n a b (inr l) k f t = copied_out m s d n k (inl (omega arith))

pub same_then : (m m' m'' : List Slot) (a b : ℕ) → Same m m' a b → Same m' m'' a b → Same m m'' a b
same_then m m' m'' a b p q k f t = p k f t ∙ q k f t

-- ---- a table cleared

twenty : (n : ℕ) → 20 * suc n ≡ suc (suc (suc (suc (suc (suc (suc (suc (suc (suc (suc (suc (suc (suc (suc (suc (suc (suc (suc (suc (20 * n))))))))))))))))))))
twenty n = omega arith

-- the slots of a table that was cleared: 20 * n bytes are n slots
zero_slots : (n k : ℕ) (r : List ℕ) → k < n → get_or (slots (replicate (20 * n) 0 ++ r)) k nil ≡ nil
unfolding slots slots_of words_of
zero_slots zero k r h = absurd (omega arith)
zero_slots (suc n) zero r h = rw (twenty n)
zero_slots (suc n) (suc k) r h = rw (twenty n) (zero_slots n k r (omega arith))

pub slots_zeroed : (n k : ℕ) (w : List ℕ) → k < n → get_or (slots (zeroed (20 * n) w)) k nil ≡ nil
unfolding zeroed
slots_zeroed n k w h = zero_slots n k (drop (20 * n) w) h
