-- The stack cut at its topmost mark and at a height of the table; parts of the values; the running context anew. Assumes nothing.
use mathlib.Core.Path.{◌≡◌, refl, ap, ◌∙◌}
use mathlib.Core.Logic.{inl, inr}
use mathlib.Core.List.{List, [], ◌∷◌, ◌++◌, map}
use Prim.Native.Nat.{ℕ, zero, suc, ◌+◌, ◌-◌, ◌%◌, ◌≤◌, ◌<◌}
use native.Mathlib.Omega.{arith}
use lib.ListN.{length, get_or, set, take, drop, get_or-map}
use lib.Seq.{take_at, drop_at}
use Rattle.table.specs.declared.Slot.{Slot}
use Rattle.table.specs.Slots.{nil, asc, desc, copied, rolled}
use Rattle.table.proofs.Moves.{Same, same_set, Apart, desc_cong, stack_cut, stack_take, stack_drop, part_drop, roll_stack, length_desc, asc_store, get_or_asc, get_or_desc, asc_moved, desc_moved, asc_cut}
use Rattle.machine.specs.declared.Value.{Value}
use Rattle.machine.specs.State.{Entry, val, mark}
use Rattle.machine.specs.Contexts.{above, beneath, over}
use Rattle.machine.specs.Engine.{last_frame, store_in}
use Rattle.state.specs.Layout.{value_in, entry_in, stack_of, values_at, frame_at, frame_of, context_in, context_at, contexts_of, lent}
use lib.ListN.{length-map}
use Rattle.state.proofs.Parts.{frame_first, lent_same, lent_less, lent_top, contexts_same, contexts_top, length_values}

-- ---- lists

pub map_append : {A B : Type 0} (f : A → B) (l m : List A) → map f (l ++ m) ≡ map f l ++ map f m
map_append f [] m = refl
map_append f (a ∷ l) m = ap (λ x. f a ∷ x) (map_append f l m)

map_take : {A B : Type 0} (f : A → B) (n : ℕ) (l : List A) → take n (map f l) ≡ map f (take n l)
map_take f zero l = refl
map_take f (suc n) [] = refl
map_take f (suc n) (a ∷ l) = ap (λ x. f a ∷ x) (map_take f n l)

map_drop : {A B : Type 0} (f : A → B) (n : ℕ) (l : List A) → drop n (map f l) ≡ map f (drop n l)
map_drop f zero l = refl
map_drop f (suc n) [] = refl
map_drop f (suc n) (a ∷ l) = map_drop f n l

map_set : {A B : Type 0} (f : A → B) (l : List A) (i : ℕ) (a : A) → map f (set l i a) ≡ set (map f l) i (f a)
map_set f [] i a = refl
map_set f (x ∷ l) zero a = refl
map_set f (x ∷ l) (suc i) a = ap (λ y. f x ∷ y) (map_set f l i a)

-- ---- at the topmost mark

pub over_take : (s : List Entry) (n : ℕ) (t : List Entry) → n ≤ length (above s) → over (take n (above s)) t ≡ take n s ++ t
unfolding over above
over_take s zero t h = refl
over_take [] (suc n) t h = absurd (omega arith)
over_take (val v ∷ s) (suc n) t h = ap (λ x. val v ∷ x) (over_take s n t (omega arith))
over_take (mark k ∷ s) (suc n) t h = absurd (omega arith)

-- the whole of it
pub over_above : (s : List Entry) → over (above s) (beneath s) ≡ s
unfolding over above beneath
over_above [] = refl
over_above (val v ∷ s) = ap (λ x. val v ∷ x) (over_above s)
over_above (mark k ∷ s) = refl

pub over_drop : (s : List Entry) (n : ℕ) → n ≤ length (above s) → over (drop n (above s)) (beneath s) ≡ drop n s
unfolding over above beneath
over_drop s zero h = over_above s
over_drop [] (suc n) h = absurd (omega arith)
over_drop (val v ∷ s) (suc n) h = over_drop s n (omega arith)
over_drop (mark k ∷ s) (suc n) h = absurd (omega arith)

pub over_all : (s t : List Entry) → over (above s) t ≡ take (length (above s)) s ++ t
unfolding over above
over_all [] t = refl
over_all (val v ∷ s) t = ap (λ x. val v ∷ x) (over_all s t)
over_all (mark k ∷ s) t = refl

pub beneath_drop : (s : List Entry) → beneath s ≡ drop (length (above s)) s
unfolding above beneath
beneath_drop [] = refl
beneath_drop (val v ∷ s) = beneath_drop s
beneath_drop (mark k ∷ s) = refl

-- ---- at a height of the table

abbrev pub entries_at : List Slot → ℕ → ℕ → List Entry
entries_at m b n = map entry_in (desc m b n)

pub entries_same : (m m' : List Slot) (b n : ℕ) → Same m m' b (b + n) → entries_at m b n ≡ entries_at m' b n
entries_same m m' b n h = ap (map entry_in) (desc_cong n b b m m' (λ i l. h (b + i) (omega arith) (omega arith)))

pub length_entries : (m : List Slot) (b n : ℕ) → length (entries_at m b n) ≡ n
length_entries m b n = length-map (desc m b n) entry_in ∙ length_desc m b n

pub stack_taken : (m : List Slot) (n height : ℕ) → n ≤ height → take n (stack_of m height) ≡ entries_at m (height - n) n
unfolding stack_of
stack_taken m n height h = map_take entry_in n (desc m 0 height) ∙ ap (map entry_in) (stack_take m n height h)

pub stack_dropped : (m : List Slot) (n height : ℕ) → n ≤ height → drop n (stack_of m height) ≡ stack_of m (height - n)
unfolding stack_of
stack_dropped m n height h = map_drop entry_in n (desc m 0 height) ∙ ap (map entry_in) (stack_drop m n height h)

pub stack_joined : (m : List Slot) (a n : ℕ) → stack_of m (a + n) ≡ entries_at m a n ++ stack_of m a
unfolding stack_of
stack_joined m a n = ap (map entry_in) (stack_cut m a n) ∙ map_append entry_in (desc m a n) (desc m 0 a)

pub entries_moved : (m : List Slot) (s d n : ℕ) → d + n ≤ length m → Apart s d n → entries_at (copied m s d n) d n ≡ entries_at m s n
entries_moved m s d n f o = ap (map entry_in) (desc_moved m s d n f o)

pub entries_drop : (m : List Slot) (b j n : ℕ) → j ≤ n → drop j (entries_at m b n) ≡ entries_at m b (n - j)
entries_drop m b j n h = map_drop entry_in j (desc m b n) ∙ ap (map entry_in) (part_drop m b j n h)

pub entries_rolled : (m : List Slot) (a n j : ℕ) → j ≤ n → a + n ≤ 1814 → 1814 + n ≤ length m → stack_of (rolled m a n j 1814) (a + n) ≡ entries_at m a (n - j) ++ (entries_at m (a + (n - j)) j ++ stack_of m a)
unfolding stack_of
entries_rolled m a n j h l f =
    ap (map entry_in) (roll_stack m a n j 1814 h l f) ∙
    map_append entry_in (desc m a (n - j)) (desc m (a + (n - j)) j ++ desc m 0 a) ∙
    ap (λ (x : List Entry). entries_at m a (n - j) ++ x) (map_append entry_in (desc m (a + (n - j)) j) (desc m 0 a))

-- ---- values

pub values_moved : (m : List Slot) (s d n : ℕ) → d + n ≤ length m → Apart s d n → values_at (copied m s d n) d n ≡ values_at m s n
unfolding values_at
values_moved m s d n f o = ap (map value_in) (asc_moved m s d n f o)

pub values_cut : (m : List Slot) (b a n : ℕ) → values_at m b (a + n) ≡ values_at m b a ++ values_at m (b + a) n
unfolding values_at
values_cut m b a n = ap (map value_in) (asc_cut m b a n) ∙ map_append value_in (asc m b a) (asc m (b + a) n)

-- the values of a part from the value f on, and n of them
pub values_rest : (m : List Slot) (b f u : ℕ) → f ≤ u → drop f (values_at m b u) ≡ values_at m (b + f) (u - f)
values_rest m b f u h =
    let e : u ≡ f + (u - f) = omega arith in
    ap (λ k. drop f (values_at m b k)) e ∙ ap (drop f) (values_cut m b f (u - f)) ∙ drop_at (values_at m b f) _ f (length_values m b f)

pub values_part : (m : List Slot) (b f n u : ℕ) → f + n ≤ u → take n (drop f (values_at m b u)) ≡ values_at m (b + f) n
values_part m b f n u h =
    let e : u - f ≡ n + (u - f - n) = omega arith in
    ap (take n) (values_rest m b f u (omega arith) ∙ ap (values_at m (b + f)) e ∙ values_cut m (b + f) n (u - f - n)) ∙ take_at (values_at m (b + f) n) _ n (length_values m (b + f) n)

pub values_store : (m : List Slot) (b n i : ℕ) (v : Slot) → i < n → b + i < length m → values_at (set m (b + i) v) b n ≡ set (values_at m b n) i (value_in v)
unfolding values_at
values_store m b n i v l f = ap (map value_in) (asc_store m b n i v l f) ∙ map_set value_in (asc m b n) i v

pub get_d_any : {A : Type 0} (l : List A) (i : ℕ) (a b : A) → i < length l → get_or l i a ≡ get_or l i b
get_d_any [] i a b h = absurd (omega arith)
get_d_any (x ∷ l) zero a b h = refl
get_d_any (x ∷ l) (suc i) a b h = get_d_any l i a b (omega arith)

pub values_get : (m : List Slot) (b n i : ℕ) (z : Value) → i < n → get_or (values_at m b n) i z ≡ value_in (get_or m (b + i) nil)
unfolding values_at
values_get m b n i z h =
    let l : i < length (values_at m b n) = rw length_values h in
    get_d_any (values_at m b n) i z (value_in nil) l ∙ get_or-map value_in (asc m b n) i nil ∙ ap value_in (get_or_asc m b n i h)

-- ---- contexts

pub last_frame_lem : (m : List Slot) (d u : ℕ) (f : List Value) → 0 < d → lent m d ≤ u → u ≤ 1024 → last_frame f (contexts_of m d) ≡ values_at m 128 50
unfolding last_frame contexts_of context_at context_in
last_frame_lem m zero u f h e l = absurd (omega arith)
last_frame_lem m (suc zero) u f h e l = let z : (get_or m 1752 nil).d % 4096 ≡ 0 = frame_first ((get_or m 1752 nil).d % 4096) u (lent_top m 1 u h e) l in rw z
last_frame_lem m (suc (suc d)) u f h e l = last_frame_lem m (suc d) u (values_at m (frame_of (get_or m (1752 + suc d) nil)) 50) (omega arith) (omega (arith, lent_less m (suc (suc d)) (suc d) (omega arith))) l

-- the slot of the running context, and its frame, anew
pub contexts_renew : (m m' : List Slot) (d u : ℕ) → 0 < d → lent m d ≤ u → u ≤ 1024 → Same m' m 128 (frame_at (d - 1)) → Same m' m 728 (728 + u) → Same m' m 1752 (1752 + (d - 1))
    → contexts_of m' d ≡ context_at m' (d - 1) ∷ contexts_of m (d - 1)
contexts_renew m m' d u h e l p s q =
    contexts_top m' d h ∙
    ap (λ x. context_at m' (d - 1) ∷ x) (contexts_same m' m (d - 1) u (omega (arith, lent_same m' m (d - 1) q, lent_less m d (d - 1) (omega arith))) l p s q)

pub contexts_store : (m : List Slot) (d u j : ℕ) (v : Slot) → 0 < d → d ≤ 12 → lent m d ≤ u → u ≤ 1024 → j < 50 → 2400 ≤ length m → frame_of (get_or m (1752 + (d - 1)) nil) ≡ frame_at (d - 1)
    → contexts_of (set m (frame_at (d - 1) + j) v) d ≡ store_in j (value_in v) (contexts_of m d)
unfolding store_in context_at context_in
contexts_store m d u j v h l e f t room own =
    let k = frame_at (d - 1) + j in
    contexts_renew m (set m k v) d u h e f (same_set m k v 128 _ (inr (omega arith))) (same_set m k v 728 _ (inl (omega arith))) (same_set m k v 1752 _ (inl (omega arith))) ∙
    (rw (contexts_top m d h, same_set m k v 1752 (1752 + d) (inl (omega arith)) (1752 + (d - 1)) (omega arith) (omega arith), own, values_store m (frame_at (d - 1)) 50 j v t (omega arith)) refl)

-- ---- the values above the topmost mark, one by one

above_get : (s : List Entry) (i : ℕ) (e : Entry) (z : Value) → i < length (above s) → get_or s i e ≡ val (get_or (above s) i z)
unfolding above
above_get [] i e z h = absurd (omega arith)
above_get (val v ∷ s) zero e z h = refl
above_get (val v ∷ s) (suc i) e z h = above_get s i e z (omega arith)
above_get (mark k ∷ s) i e z h = absurd (omega arith)

stack_get : (m : List Slot) (height i : ℕ) → i < height → get_or (stack_of m height) i (entry_in nil) ≡ entry_in (get_or m (height - suc i) nil)
unfolding stack_of
stack_get m height i h = get_or-map entry_in (desc m 0 height) i nil ∙ ap entry_in (get_or_desc m height i h)
