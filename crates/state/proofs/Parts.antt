-- What is read of each part of the table, and that nothing else of it is read. Assumes nothing.
use mathlib.Core.Path.{◌≡◌, refl, ap, ap₂, ◌∙◌}
use mathlib.Core.Logic.{◌⊎◌, inl, inr}
use mathlib.Core.List.{List, ◌∷◌, map}
use Prim.Native.Nat.{ℕ, zero, suc, ◌+◌, ◌-◌, ◌*◌, ◌%◌, ◌≤◌, ◌<◌}
use native.Mathlib.Decide.{ℕ_discrete, dec_le}
use native.Mathlib.Omega.{arith}
use borrow.Author.Tests.{eq-eqb, ne_eqb, le-leb, lt-leb}
use lib.ListN.{length, get_or, set}
use Rattle.table.specs.declared.Slot.{Slot}
use Rattle.table.specs.Slots.{nil, slots, asc, desc}
use Rattle.table.proofs.SlotLists.{roomy, room_back}
use Rattle.table.proofs.Moves.{Same, same_set, asc_cong, desc_cong, stack_push, stack_pop, length_desc, length_asc}
use Rattle.machine.specs.declared.Value.{Value}
use Rattle.state.specs.Layout.{value_in, entry_in, stack_of, values_at, frame_at, frame_of, context_in, context_at, contexts_of, aside, lent_by, lent}
use lib.ListN.{length-map}

-- ---- the table is long enough

pub wide : (w : List ℕ) → 48000 ≤ length w → 2400 ≤ length (slots w)
wide w h = roomy 2400 w h

pub room_of_lem : (w : List ℕ) (m : List Slot) → slots w ≡ m → 2400 ≤ length m → 48000 ≤ length w
room_of_lem w m e h = room_back 2400 w (rw e h)

-- ---- each reader reads its part only

pub stack_same : (m m' : List Slot) (n : ℕ) → Same m m' 0 n → stack_of m n ≡ stack_of m' n
unfolding stack_of
stack_same m m' n h = ap (map entry_in) (desc_cong n 0 0 m m' (λ i l. h (0 + i) (omega arith) (omega arith)))

pub values_same : (m m' : List Slot) (b n : ℕ) → Same m m' b (b + n) → values_at m b n ≡ values_at m' b n
unfolding values_at
values_same m m' b n h = ap (map value_in) (asc_cong n b b m m' (λ i l. h (b + i) (omega arith) (omega arith)))

-- ---- where frames lie

-- the context's own frame, one wholly below it, or one in the cells in use
abbrev pub Lies : ℕ → ℕ → ℕ → Type 0
Lies i k u = (k ≡ 50 * i) ⊎ ((k + 50 ≤ 50 * i) ⊎ ((1 ≤ i) × ((600 ≤ k) × (k + 50 ≤ 600 + u))))

pub lent_lies : (i k u : ℕ) → lent_by i k ≤ u → u ≤ 1024 → Lies i k u
unfolding lent_by
lent_lies i k u h l = go (ℕ_discrete k (50 * i)) (dec_le (k + 50) (50 * i)) (dec_le 1 i) (dec_le 600 k)
  where
    go : Dec (k ≡ 50 * i) → Dec (k + 50 ≤ 50 * i) → Dec (1 ≤ i) → Dec (600 ≤ k) → Lies i k u
    go (yes z) a b c = inl z
    go (no z) (yes a) b c = inr (inl a)
    go (no z) (no a) (no b) c = absurd (none (rw (ne_eqb k (50 * i) z, lt-leb (k + 50) (50 * i) (omega arith), lt-leb 1 i (omega arith)) at h))
      where
        none : 1025 ≤ u → ⊥
        none e = omega arith
    go (no z) (no a) (yes b) (no c) = absurd (none (rw (ne_eqb k (50 * i) z, lt-leb (k + 50) (50 * i) (omega arith), le-leb 1 i b, lt-leb 600 k (omega arith)) at h))
      where
        none : 1025 ≤ u → ⊥
        none e = omega arith
    go (no z) (no a) (yes b) (yes c) = inr (inr (b, (c, far (rw (ne_eqb k (50 * i) z, lt-leb (k + 50) (50 * i) (omega arith), le-leb 1 i b, le-leb 600 k c) at h))))
      where
        far : k - 550 ≤ u → k + 50 ≤ 600 + u
        far e = omega arith

pub lies_lent : (i k u : ℕ) → Lies i k u → lent_by i k ≤ u
unfolding lent_by
lies_lent i k u h = go (ℕ_discrete k (50 * i)) (dec_le (k + 50) (50 * i)) h
  where
    go : Dec (k ≡ 50 * i) → Dec (k + 50 ≤ 50 * i) → Lies i k u → lent_by i k ≤ u
    go (yes z) a l = rw (eq-eqb k (50 * i) z) (omega arith)
    go (no z) (yes a) l = rw (ne_eqb k (50 * i) z, le-leb (k + 50) (50 * i) a) (omega arith)
    go (no z) (no a) (inl b) = absurd (z b)
    go (no z) (no a) (inr (inl b)) = absurd (a b)
    go (no z) (no a) (inr (inr (b, (c, f)))) = rw (ne_eqb k (50 * i) z, lt-leb (k + 50) (50 * i) (omega arith), le-leb 1 i b, le-leb 600 k c) (omega arith)

-- and so it does for the context above
pub lies_up : (i k u : ℕ) → Lies i k u → Lies (suc i) k u
lies_up i k u (inl z) = inr (inl (omega arith))
lies_up i k u (inr (inl a)) = inr (inl (omega arith))
lies_up i k u (inr (inr (a, b))) = inr (inr (omega arith, b))

-- a frame is read there only
pub frame_same : (m m' : List Slot) (i k u : ℕ) → lent_by i k ≤ u → u ≤ 1024 → Same m m' 128 (frame_at i + 50) → Same m m' 728 (728 + u) → values_at m (128 + k) 50 ≡ values_at m' (128 + k) 50
frame_same m m' i k u e l h c = go (lent_lies i k u e l)
  where
    go : Lies i k u → values_at m (128 + k) 50 ≡ values_at m' (128 + k) 50
    go (inl z) = values_same m m' (128 + k) 50 (λ j f t. h j (omega arith) (omega arith))
    go (inr (inl a)) = values_same m m' (128 + k) 50 (λ j f t. h j (omega arith) (omega arith))
    go (inr (inr (a, (b, z)))) = values_same m m' (128 + k) 50 (λ j f t. c j (omega arith) (omega arith))

-- the frame of the engine's body lies in its place
pub frame_first : (k u : ℕ) → lent_by 0 k ≤ u → u ≤ 1024 → k ≡ 0
frame_first k u e l = go (lent_lies 0 k u e l)
  where
    go : Lies 0 k u → k ≡ 0
    go (inl z) = omega arith
    go (inr (inl a)) = absurd (omega arith)
    go (inr (inr (a, b))) = absurd (omega arith)

pub lent_same : (m m' : List Slot) (d : ℕ) → Same m m' 1752 (1752 + d) → lent m d ≡ lent m' d
unfolding lent
lent_same m m' zero k = refl
lent_same m m' (suc d) k =
    ap₂ (λ (v : Slot) (n : ℕ). n + (lent_by d (v.d % 4096) - n)) (k (1752 + d) (omega arith) (omega arith)) (lent_same m m' d (λ i f t. k i f (omega arith)))

pub lent_none : (m : List Slot) (u : ℕ) → lent m 0 ≤ u
unfolding lent
lent_none m u = omega arith

-- those of the contexts below take no more
pub lent_less : (m : List Slot) (d d' : ℕ) → d' ≤ d → lent m d' ≤ lent m d
unfolding lent
lent_less m zero d' h = let e : d' ≡ 0 = omega arith in rw e (omega arith)
lent_less m (suc d) d' h = go (dec_le d' d) (lent_less m d d')
  where
    go : Dec (d' ≤ d) → (d' ≤ d → lent m d' ≤ lent m d) → lent m d' ≤ lent m (suc d)
    go (yes a) ih = omega (arith, ih a)
    go (no a) ih = let e : d' ≡ suc d = omega arith in rw e (omega arith)

-- the frame of the topmost
lent_last : (m : List Slot) (d u : ℕ) → lent m (suc d) ≤ u → lent_by d ((get_or m (1752 + d) nil).d % 4096) ≤ u
unfolding lent
lent_last m d u e = omega (arith, e)

pub lent_top : (m : List Slot) (d u : ℕ) → 0 < d → lent m d ≤ u → lent_by (d - 1) ((get_or m (1752 + (d - 1)) nil).d % 4096) ≤ u
lent_top m zero u h e = absurd (omega arith)
lent_top m (suc d) u h e = let z : suc d - 1 ≡ d = omega arith in rw z (lent_last m d u e)

-- a context more
pub lent_more : (m m' : List Slot) (d u : ℕ) → lent m d ≤ u → Same m' m 1752 (1752 + d) → lent_by d ((get_or m' (1752 + d) nil).d % 4096) ≤ u → lent m' (suc d) ≤ u
unfolding lent
lent_more m m' d u e k l = omega (arith, lent_same m' m d k, e, l)

-- the topmost anew
pub lent_renew : (m m' : List Slot) (d u : ℕ) → 0 < d → lent m d ≤ u → Same m' m 1752 (1752 + (d - 1)) → lent_by (d - 1) ((get_or m' (1752 + (d - 1)) nil).d % 4096) ≤ u → lent m' d ≤ u
lent_renew m m' zero u h e k l = absurd (omega arith)
lent_renew m m' (suc d) u h e k l = let z : suc d - 1 ≡ d = omega arith in lent_more m m' d u (omega (arith, lent_less m (suc d) d (omega arith))) (rw z at k) (rw z at l)

-- ---- contexts

pub contexts_same : (m m' : List Slot) (d u : ℕ) → lent m d ≤ u → u ≤ 1024 → Same m m' 128 (128 + 50 * d) → Same m m' 728 (728 + u) → Same m m' 1752 (1752 + d) → contexts_of m d ≡ contexts_of m' d
unfolding contexts_of context_at
contexts_same m m' zero u e l h c k = refl
contexts_same m m' (suc d) u e l h c k =
    let v = get_or m (1752 + d) nil in
    let by : lent_by d (v.d % 4096) ≤ u = lent_last m d u e in
    ap₂ ◌∷◌
    (ap₂ context_in (k (1752 + d) (omega arith) (omega arith)) (frame_same m m' d (v.d % 4096) u by l (λ i f t. h i f (omega arith)) c ∙ ap (λ (x : Slot). values_at m' (frame_of x) 50) (k (1752 + d) (omega arith) (omega arith))))
    (contexts_same m m' d u (omega (arith, e, lent_less m (suc d) d (omega arith))) l (λ i f t. h i f (omega arith)) c (λ i f t. k i f (omega arith)))

-- ---- the frame kept aside

pub aside_same : (w w' : List ℕ) → Same (slots w) (slots w') 1764 1814 → aside w ≡ aside w'
unfolding aside
aside_same w w' h = values_same (slots w) (slots w') 1764 50 h

-- a slot of the stack put
pub aside_put : {A : List Value} (w w' : List ℕ) (k : ℕ) (v : Slot) → k < 128 → slots w' ≡ set (slots w) k v → aside w ≡ A → aside w' ≡ A
aside_put w w' k v h p e = aside_same w' w (rw p (same_set (slots w) k v 1764 1814 (inl (omega arith)))) ∙ e

-- ---- lengths

pub length_stack : (m : List Slot) (n : ℕ) → length (stack_of m n) ≡ n
unfolding stack_of
length_stack m n = length-map (desc m 0 n) entry_in ∙ length_desc m 0 n

pub length_values : (m : List Slot) (b n : ℕ) → length (values_at m b n) ≡ n
unfolding values_at
length_values m b n = length-map (asc m b n) value_in ∙ length_asc m b n

pub length_contexts : (m : List Slot) (d : ℕ) → length (contexts_of m d) ≡ d
unfolding contexts_of
length_contexts m zero = refl
length_contexts m (suc d) = ap suc (length_contexts m d)

-- ---- the top of the stack, the running context

pub stack_top : (m : List Slot) (n : ℕ) → 0 < n → stack_of m n ≡ entry_in (get_or m (n - 1) nil) ∷ stack_of m (n - 1)
unfolding stack_of
stack_top m n h = ap (map entry_in) (stack_pop m n h)

pub stack_more : (m : List Slot) (n : ℕ) (v : Slot) → n < length m → stack_of (set m n v) (n + 1) ≡ entry_in v ∷ stack_of m n
unfolding stack_of
stack_more m n v h = ap (map entry_in) (stack_push m n v h)

pub contexts_top : (m : List Slot) (d : ℕ) → 0 < d → contexts_of m d ≡ context_at m (d - 1) ∷ contexts_of m (d - 1)
unfolding contexts_of
contexts_top m zero h = absurd (omega arith)
contexts_top m (suc d) h = let e : suc d - 1 ≡ d = omega arith in rw e

pub contexts_at : (m : List Slot) (d : ℕ) (c : Slot) → 0 < d → c ≡ get_or m (1752 + (d - 1)) nil → contexts_of m d ≡ context_in c (values_at m (frame_of c) 50) ∷ contexts_of m (d - 1)
unfolding context_at
contexts_at m d c h e = rw e (contexts_top m d h)

pub stack_at : (m : List Slot) (n : ℕ) (v : Slot) → 0 < n → v ≡ get_or m (n - 1) nil → stack_of m n ≡ entry_in v ∷ stack_of m (n - 1)
stack_at m n v h e = rw e (stack_top m n h)
