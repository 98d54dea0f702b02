-- The running frame and the cells read, FSET, and a frame of zeros. Assumes nothing.
use mathlib.Core.Path.{◌≡◌, refl, ap, ap₂, sym, ◌∙◌}
use mathlib.Core.Option.{Option}
use lib.Dec.{leb}
use mathlib.Core.Logic.{inl, inr, ◌≢◌}
use mathlib.Core.List.{List, [], ◌∷◌}
use Prim.Native.Nat.{ℕ, zero, suc, ◌+◌, ◌-◌, ◌*◌, ◌%◌, ◌≤◌, ◌<◌}
use native.Mathlib.Nat.{add-zero, suc-add, add-suc}
use native.Mathlib.Decide.{ℕ_discrete}
use native.Mathlib.Omega.{arith}
use borrow.Author.Tests.{eq-eqb, le-leb}
use lib.ListN.{length, get_or, set, replicate, length-set, get_or-eq_default}
use lib.Seq.{get_or-set_same, get_or-set_other}
use Rattle.std.specs.Prelude.{Some, None}
use Rattle.table.specs.declared.Slot.{Slot}
use Rattle.table.specs.Slots.{nil, mk, slots, asc, desc, copied}
use Rattle.table.proofs.Moves.{Same, same_set, same_copied, same_then, Apart, length_copied}
use Rattle.machine.specs.State.{State, zero_frame, running}
use Rattle.machine.specs.Contexts.{above}
use Rattle.machine.specs.Engine.{limited, provided, with_contexts, pops, push, noted, last_frame, store_in, store}
use Rattle.state.specs.declared.Registers.{Registers}
use Rattle.state.specs.Layout.{value_in, entry_in, stack_of, values_at, frame_at, frame_of, context_in, context_at, contexts_of, aside, abs, lent, Busy, Perhaps, Tried}
use Rattle.state.specs.Operations.{fetch, element, filled, Owned}
use Rattle.state.proofs.Parts.{wide, room_of_lem, stack_same, values_same, Lies, lent_lies, lies_lent, lent_same, lent_top, lent_renew, aside_same, length_stack, length_values, stack_at, contexts_at}
use Rattle.state.proofs.Ending.{state_path}
use Rattle.state.proofs.Cutting.{values_get, values_moved, last_frame_lem, contexts_renew, contexts_store}
use Rattle.state.proofs.Trying.{trying, not_none, tried_no, tried_yes, tried_as, fits_abs, pops_is}
use Rattle.state.proofs.Stacking.{zero_value, above_few, above_value}
use Rattle.machine.specs.State as state

running_frame : (w : List ℕ) (r : Registers) (c : Slot) → Busy w r → c ≡ get_or (slots w) (1752 + (r.depth - 1)) nil → (running (contexts_of (slots w) r.depth)).frame ≡ values_at (slots w) (frame_of c) 50
unfolding running context_in
running_frame w r c g e = rw (contexts_at (slots w) r.depth c g.runs e)

-- it ends where the cells in use do, or before
pub frame_inside : (w : List ℕ) (r : Registers) (c : Slot) → Busy w r → c ≡ get_or (slots w) (1752 + (r.depth - 1)) nil → frame_of c + 50 ≤ 728 + r.used
frame_inside w r c g e = go (lent_lies (r.depth - 1) (c.d % 4096) r.used (rw e (lent_top (slots w) r.depth r.used g.runs g.frames_fit)) g.cells_fit)
  where
    go : Lies (r.depth - 1) (c.d % 4096) r.used → frame_of c + 50 ≤ 728 + r.used
    go (inl z) = omega (arith, g.depth_fits)
    go (inr (inl a)) = omega (arith, g.depth_fits)
    go (inr (inr (a, (b, z)))) = omega arith

-- ---- FGET

module _ {w : List ℕ} {r : Registers} (j : ℕ) (g : Busy w r) where
  pub fetch_far : {w' : List ℕ} {r' : Perhaps} (z : Slot) → 50 ≤ j → z ≡ mk 1 0 1 0 0 → Tried (push (value_in z)) w r w' r' → Tried (fetch j) w r w' r'
  unfolding fetch
  fetch_far {w'} {r'} z h e t =
      let c = get_or (slots w) (1752 + (r.depth - 1)) nil in
      let far : get_or (values_at (slots w) (frame_of c) 50) j state.zero ≡ state.zero = get_or-eq_default (values_at (slots w) (frame_of c) 50) state.zero (rw length_values h) in
      tried_as (rw (running_frame w r c g refl, far, e, zero_value)) t

  pub fetch_push : {w' : List ℕ} {r' : Perhaps} (c v u : Slot) → j < 50 → c ≡ get_or (slots w) (1752 + (r.depth - 1)) nil → v ≡ get_or (slots w) (frame_of c + j) nil → value_in u ≡ value_in v → Tried (push (value_in u)) w r w' r' → Tried (fetch j) w r w' r'
  unfolding fetch
  fetch_push {w'} {r'} c v u h got e k t =
      tried_as (rw (running_frame w r c g got, values_get (slots w) (frame_of c) 50 j _ h, ← e, ← k)) t

-- ---- a cell

module _ {w : List ℕ} {r : Registers} (k : ℕ) (g : Busy w r) where
  pub element_far : {w' : List ℕ} {r' : Perhaps} (z : Slot) → r.used ≤ k → z ≡ mk 1 0 1 0 0 → Tried (push (value_in z)) w r w' r' → Tried (element k) w r w' r'
  unfolding element
  element_far {w'} {r'} z h e t =
      let far : get_or (values_at (slots w) 728 r.used) k state.zero ≡ state.zero = get_or-eq_default (values_at (slots w) 728 r.used) state.zero (rw length_values h) in
      tried_as (rw (far, e, zero_value)) t

  pub element_push : {w' : List ℕ} {r' : Perhaps} (v u : Slot) → k < r.used → v ≡ get_or (slots w) (728 + k) nil → value_in u ≡ value_in v → Tried (push (value_in u)) w r w' r' → Tried (element k) w r w' r'
  unfolding element
  element_push {w'} {r'} v u h e i t = tried_as (rw (values_get (slots w) 728 r.used k _ h, ← e, ← i)) t

-- ---- FSET

set_far : {A : Type 0} (l : List A) (j : ℕ) (a : A) → length l ≤ j → set l j a ≡ l
set_far [] j a h = refl
set_far (x ∷ l) zero a h = absurd (omega arith)
set_far (x ∷ l) (suc j) a h = ap (λ y. x ∷ y) (set_far l j a (omega arith))

module _ {w : List ℕ} {r : Registers} (j : ℕ) (g : Busy w r) where
  pub store_empty : {r' : Perhaps} → r.height ≡ 0 → r' ≡ None → Tried (store j) w r w r'
  unfolding store provided above stack_of desc
  store_empty {r'} h q = tried_no (rw h) q

  module _ (v : Slot) (got : v ≡ get_or (slots w) (r.height - 1) nil) (some_entry : r.height ≡ 0 → ⊥) where
    pub store_mark : {r' : Perhaps} → v.kind ≡ 5 → r' ≡ None → Tried (store j) w r w r'
    unfolding store provided above entry_in
    store_mark {r'} h q = tried_no (rw (stack_at (slots w) r.height v (omega arith) got, eq-eqb v.kind 5 h)) q

    module _ (is_value : v.kind ≡ 5 → ⊥) where
      first_value : above (stack_of (slots w) r.height) ≡ value_in v ∷ above (stack_of (slots w) (r.height - 1))
      first_value = above_value (slots w) r.height (mk 1 0 1 0 0) refl v got some_entry is_value

      one : 1 ≤ length (above (stack_of (slots w) r.height))
      one = rw first_value (omega arith)

      popped : pops 1 (abs w r) ≡ abs w (trying r (r.height - 1) r.depth r.used)
      popped = sym (pops_is w r 1 (length (above (stack_of (slots w) r.height))) one (omega (arith, above_few (stack_of (slots w) r.height), length_stack (slots w) r.height)) refl)

      store_is : store j (abs w r) ≡ limited (noted (with_contexts (store_in j (value_in v) (contexts_of (slots w) r.depth)) (abs w (trying r (r.height - 1) r.depth r.used))))
      unfolding store provided
      store_is = rw (le-leb 1 (length (above (stack_of (slots w) r.height))) one, popped, first_value)

      pub store_far : {r' : Perhaps} → 50 ≤ j → r' ≡ Some (trying r (r.height - 1) r.depth r.used) → Tried (store j) w r w r'
      unfolding noted store_in context_in
      store_far {r'} h q =
          let m = slots w in
          let c = get_or m (1752 + (r.depth - 1)) nil in
          let r₁ = trying r (r.height - 1) r.depth r.used in
          let same : store_in j (value_in v) (contexts_of m r.depth) ≡ contexts_of m r.depth =
          rw (contexts_at m r.depth c g.runs refl, set_far (values_at m (frame_of c) 50) j (value_in v) (rw length_values h)) in
          let e : abs w r₁ ≡ noted (with_contexts (store_in j (value_in v) (contexts_of m r.depth)) (abs w r₁)) =
          rw same (state_path refl refl (sym (last_frame_lem m r.depth r.used (values_at m 128 50) g.runs g.frames_fit g.cells_fit)) refl) in
          rw q (tried_yes (omega arith) refl refl (store_is ∙ (rw (← e) (fits_abs w r₁ (omega arith) g.depth_fits g.cells_fit))))

      -- in the running context's own frame
      pub store_yes : {w' : List ℕ} {r' : Perhaps} → frame_of (get_or (slots w) (1752 + (r.depth - 1)) nil) ≡ frame_at (r.depth - 1) → j < 50 → slots w' ≡ set (slots w) (128 + 50 * (r.depth - 1) + j) v → r' ≡ Some (trying r (r.height - 1) r.depth r.used) → Tried (store j) w r w' r'
      unfolding noted
      store_yes {w'} {r'} own h p q =
          let m = slots w in
          let k = frame_at (r.depth - 1) + j in
          let m' = set m k v in
          let r₁ = trying r (r.height - 1) r.depth r.used in
          let room = wide w g.room in
          let l : 2400 ≤ length m' = rw length-set room in
          let rm = room_of_lem w' m' p l in
          let cs : contexts_of (slots w') r.depth ≡ store_in j (value_in v) (contexts_of m r.depth) = rw p (contexts_store m r.depth r.used j v g.runs g.depth_fits g.frames_fit g.cells_fit h room own) in
          let ln : lent (slots w') r.depth ≡ lent m r.depth = rw p (lent_same m' m r.depth (same_set m k v 1752 _ (inl (omega arith)))) in
          let e : abs w' r₁ ≡ noted (with_contexts (store_in j (value_in v) (contexts_of m r.depth)) (abs w r₁)) =
          state_path (rw p (stack_same m' m (r.height - 1) (same_set m k v 0 _ (inr (omega arith))))) cs
          (rw (← cs) (sym (last_frame_lem (slots w') r.depth r.used (values_at m 128 50) g.runs (omega arith) g.cells_fit)))
          (rw p (values_same m' m 728 r.used (same_set m k v 728 _ (inl (omega arith))))) in
          let kp : aside w' ≡ aside w = aside_same w' w (rw p (same_set m k v 1764 1814 (inl (omega arith)))) in
          rw q (tried_yes (omega arith) kp refl (store_is ∙ (rw (← e) (fits_abs w' r₁ (omega arith) g.depth_fits g.cells_fit))))

-- ---- the running frame made the running context's own

-- nothing has changed to what w has
pub store_after : {f : State → Option State} {w w₁ w' : List ℕ} {r r' : Registers} → Owned w r w₁ → Tried f w₁ r w' (Some r') → Tried f w r w' (Some r')
store_after {f} o t = record {
  busy = t.busy;
  does = t.does ∙ ap f o.same;
  back = λ h. not_none h;
  keeps = t.keeps ∙ o.keeps;
  counted = t.counted;
}

module _ {w : List ℕ} {r : Registers} (g : Busy w r) (c : Slot) (got : c ≡ get_or (slots w) (1752 + (r.depth - 1)) nil) where
  -- it is so already
  pub own_there : c.d % 4096 ≡ 50 * (r.depth - 1) → Owned w r w
  own_there e = record { busy = g; own = rw (← got) (ap (λ (k : ℕ). 128 + k) e); same = refl; keeps = refl; stands = λ k h. refl }

  module _ (lies : c.d % 4096 ≡ 50 * (r.depth - 1) → ⊥) where
    apart : Apart (frame_of c) (frame_at (r.depth - 1)) 50
    apart = go (lent_lies (r.depth - 1) (c.d % 4096) r.used (rw got (lent_top (slots w) r.depth r.used g.runs g.frames_fit)) g.cells_fit)
      where
        go : Lies (r.depth - 1) (c.d % 4096) r.used → Apart (frame_of c) (frame_at (r.depth - 1)) 50
        go (inl z) = absurd (lies z)
        go (inr (inl a)) = inl (omega arith)
        go (inr (inr (a, (b, z)))) = inr (omega (arith, g.depth_fits))

    pub own_made : {w' : List ℕ} (w₁ : List ℕ) (o : ℕ) → leb 4096 o ≡ leb 4096 c.d → o % 4096 ≡ 50 * (r.depth - 1) → slots w₁ ≡ copied (slots w) (frame_of c) (frame_at (r.depth - 1)) 50
        → slots w' ≡ set (slots w₁) (1752 + (r.depth - 1)) (mk c.kind c.a c.b c.c o) → Owned w r w'
    unfolding context_at context_in
    own_made {w'} w₁ o eo ek p₁ p =
        let m = slots w in
        let d = r.depth in
        let i = 1752 + (d - 1) in
        let s = frame_of c in
        let f = frame_at (d - 1) in
        let m₁ = copied m s f 50 in
        let v = mk c.kind c.a c.b c.c o in
        let m' = set m₁ i v in
        let pm : slots w' ≡ m' = rw p₁ at p in
        let room = wide w g.room in
        let l₁ = length_copied m s f 50 in
        let big : 2400 ≤ length m' = rw (length-set, l₁) room in
        let rm = room_of_lem w' m' pm big in
        let there : get_or m' i nil ≡ v = get_or-set_same m₁ i v nil (omega arith) in
        let low : Same m' m 128 f = same_then m' m₁ m 128 f (same_set m₁ i v 128 f (inr (omega arith))) (same_copied m s f 50 128 f (inr (omega arith))) in
        let cells : Same m' m 728 (728 + r.used) = same_then m' m₁ m 728 _ (same_set m₁ i v 728 _ (inr (omega arith))) (same_copied m s f 50 728 _ (inl (omega arith))) in
        let below : Same m' m 1752 i = same_then m' m₁ m 1752 i (same_set m₁ i v 1752 i (inr (omega arith))) (same_copied m s f 50 1752 i (inl (omega arith))) in
        let stack : Same m' m 0 128 = same_then m' m₁ m 0 128 (same_set m₁ i v 0 128 (inr (omega arith))) (same_copied m s f 50 0 128 (inr (omega arith))) in
        let kept : Same m' m 1764 1814 = same_then m' m₁ m 1764 1814 (same_set m₁ i v 1764 1814 (inl (omega arith))) (same_copied m s f 50 1764 1814 (inl (omega arith))) in
        let frame : values_at m' f 50 ≡ values_at m s 50 = values_same m' m₁ f 50 (same_set m₁ i v f _ (inr (omega arith))) ∙ values_moved m s f 50 (omega arith) apart in
        let own : frame_of (get_or m' i nil) ≡ f = rw there (ap (λ (k : ℕ). 128 + k) ek) in
        let takes : lent m' d ≤ r.used = lent_renew m m' d r.used g.runs g.frames_fit below (lies_lent (d - 1) _ r.used (inl (rw there ek))) in
        let cs : contexts_of m' d ≡ contexts_of m d =
        contexts_renew m m' d r.used g.runs g.frames_fit g.cells_fit low cells below ∙
        (rw (contexts_at m d c g.runs got, there, ap (λ (k : ℕ). 128 + k) ek, frame, eo)) in
        let fits : lent (slots w') d ≤ r.used = rw pm takes in
        record {
          busy = omega arith;
          own = rw pm own;
          same =
              state_path (rw pm (stack_same m' m r.height (λ k a b. stack k a (omega arith)))) (rw pm cs)
              (rw pm (sym (last_frame_lem m' d r.used [] g.runs takes g.cells_fit) ∙ ap (last_frame []) cs ∙ last_frame_lem m d r.used [] g.runs g.frames_fit g.cells_fit))
              (rw pm (values_same m' m 728 r.used cells));
          keeps = aside_same w' w (rw pm kept);
          stands = λ k h. rw pm (stack k (omega arith) h);
        }

-- ---- a frame of zeros

length_filled : (m : List Slot) (b n : ℕ) → length (filled m b n) ≡ length m
unfolding filled
length_filled m b zero = refl
length_filled m b (suc n) = rw length-set (length_filled m b n)

filled_in : (m : List Slot) (b n i : ℕ) → b + n ≤ length m → i < n → get_or (filled m b n) (b + i) nil ≡ mk 1 0 1 0 0
unfolding filled
filled_in m b zero i f h = absurd (omega arith)
filled_in m b (suc n) i f h = go (ℕ_discrete i n) (λ l. filled_in m b n i (omega arith) l)
  where
    go : Dec (i ≡ n) → (i < n → get_or (filled m b n) (b + i) nil ≡ mk 1 0 1 0 0) → get_or (set (filled m b n) (b + n) (mk 1 0 1 0 0)) (b + i) nil ≡ mk 1 0 1 0 0
    go (yes e) ih = rw e (get_or-set_same (filled m b n) (b + n) (mk 1 0 1 0 0) nil (omega (arith, length_filled m b n)))
    go (no ne) ih =
        let ne' : b + i ≢ b + n = λ e. ne (omega arith) in
        rw get_or-set_other (ih (omega arith))

all_same : (m : List Slot) (b n : ℕ) (v : Slot) → ((i : ℕ) → i < n → get_or m (b + i) nil ≡ v) → values_at m b n ≡ replicate n (value_in v)
unfolding values_at asc
all_same m b zero v h = refl
all_same m b (suc n) v h =
    ap₂ ◌∷◌ (ap value_in (simp add-zero at (h 0 (omega arith)))) (all_same m (suc b) n v (λ i l. simp suc-add (simp add-suc at (h (suc i) (omega arith)))))

pub frame_filled : (m : List Slot) → 2400 ≤ length m → values_at (filled m 128 50) 128 50 ≡ zero_frame
unfolding zero_frame
frame_filled m f = all_same (filled m 128 50) 128 50 (mk 1 0 1 0 0) (λ i h. filled_in m 128 50 i (omega arith) h) ∙ ap (replicate 50) zero_value
