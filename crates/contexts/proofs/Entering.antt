-- Bodies entered and opened, a step begun. Assumes nothing.
use mathlib.Core.Path.{◌≡◌, refl, ◌∙◌}
use mathlib.Core.Bool.{Bool, false}
use mathlib.Core.Logic.{inl, inr}
use mathlib.Core.List.{List, ◌∷◌}
use Prim.Native.Nat.{ℕ, suc, ◌+◌, ◌-◌, ◌%◌, ◌≤◌, ◌<◌}
use native.Mathlib.Numerals.{add-one}
use native.Mathlib.Omega.{arith}
use borrow.Author.Tests.{le-leb, lt-leb}
use lib.Dec.{leb}
use lib.ListN.{length, get_or, set, length-set}
use lib.Seq.{get_or-set_same, set-set, set-get_or}
use Rattle.std.specs.Prelude.{Some, None}
use Rattle.table.specs.declared.Slot.{Slot}
use Rattle.table.specs.Slots.{nil, mk, slots, desc}
use Rattle.table.proofs.Moves.{Same, same_set}
use Rattle.machine.specs.State.{Context, running}
use Rattle.machine.specs.Contexts.{at_end, leave_at, leave, settle}
use Rattle.machine.specs.Engine.{fits, limited, with_contexts, enter}
use Rattle.machine.specs.Step.{begun_in, begun}
use Rattle.state.specs.declared.Registers.{Registers}
use Rattle.state.specs.Layout.{stack_of, values_at, frame_at, frame_of, context_in, context_at, contexts_of, aside, abs, lent_by, lent, Good, Busy, Perhaps, Tried, goes_to, Begun}
use Rattle.state.specs.Operations.{entered, enter_on, inline, call, opening, Opened}
use Rattle.state.proofs.Parts.{wide, room_of_lem, stack_same, values_same, Lies, lent_lies, lies_lent, lies_up, frame_same, lent_same, lent_none, lent_top, lent_more, lent_renew, contexts_same, aside_same, length_stack, length_contexts, contexts_at}
use Rattle.state.proofs.Ending.{state_path}
use Rattle.state.proofs.Cutting.{values_part, contexts_renew}
use Rattle.state.proofs.Trying.{trying, tried_no, tried_yes, tried_as, fits_abs}

-- ---- a body entered on the frame that a word says

module _ {w : List ℕ} {r : Registers} (origin at end word : ℕ) (g : Busy w r) where
  pub enter_full : {r' : Perhaps} → 12 ≤ r.depth → r' ≡ None → Tried (enter_on (slots w) origin at end word) w r w r'
  unfolding enter_on enter limited fits
  enter_full {r'} h q = tried_no (rw (length_stack, le-leb r.height 128 g.stack_fits, length_contexts, lt-leb (suc r.depth) 12 (omega arith))) q

  module _ (takes : r.depth < 12 → lent_by r.depth (word % 4096) ≤ r.used) (h : r.depth < 12) where
    new : Context
    new = entered origin at end (leb 4096 word) (values_at (slots w) (128 + word % 4096) 50) (abs w r)

    abbrev put : List Slot
    put = set (slots w) (1752 + r.depth) (mk r.steps origin at end word)

    there : get_or put (1752 + r.depth) nil ≡ mk r.steps origin at end word
    there = get_or-set_same (slots w) (1752 + r.depth) (mk r.steps origin at end word) nil (omega (arith, wide w g.room))

    under : (a b : ℕ) → b ≤ 1752 + r.depth → Same put (slots w) a b
    under a b l = same_set (slots w) (1752 + r.depth) (mk r.steps origin at end word) a b (inr l)

    contexts_put : contexts_of put (suc r.depth) ≡ new ∷ contexts_of (slots w) r.depth
    unfolding contexts_of context_at context_in new
    contexts_put =
        let d = r.depth in
        rw (
          there,
          frame_same put (slots w) d (word % 4096) r.used (takes h) g.cells_fit (under 128 _ (omega arith)) (under 728 _ (omega (arith, g.cells_fit))),
          contexts_same put (slots w) d r.used (omega (arith, lent_same put (slots w) d (under 1752 _ (omega arith)))) g.cells_fit (under 128 _ (omega arith)) (under 728 _ (omega (arith, g.cells_fit))) (under 1752 _ (omega arith)),
        )

    pub enter_made : {w' : List ℕ} {r' : Perhaps} (id : ℕ) → id ≡ r.steps → slots w' ≡ set (slots w) (1752 + r.depth) (mk id origin at end word) → r' ≡ Some (trying r r.height (r.depth + 1) r.used)
        → Tried (enter_on (slots w) origin at end word) w r w' r'
    unfolding enter_on enter new
    enter_made {w'} {r'} id ei pi q =
        let m = slots w in
        let d = r.depth in
        let p : slots w' ≡ put = rw ei at pi in
        let big : 2400 ≤ length put = rw length-set (wide w g.room) in
        let rm = room_of_lem w' put p big in
        let r₁ = trying r r.height (d + 1) r.used in
        let one : d + 1 ≡ suc d = add-one d in
        let fr : lent (slots w') (d + 1) ≤ r.used = rw (p, one) (lent_more m put d r.used g.frames_fit (under 1752 _ (omega arith)) (rw there (takes h))) in
        let e : abs w' r₁ ≡ with_contexts (new ∷ contexts_of m d) (abs w r) =
        state_path (rw p (stack_same put m r.height (under 0 _ (omega arith)))) (rw (p, one) contexts_put) (rw p (values_same put m 128 50 (under 128 _ (omega arith))))
        (rw p (values_same put m 728 r.used (under 728 _ (omega (arith, g.cells_fit))))) in
        let kp : aside w' ≡ aside w = aside_same w' w (rw p (same_set m (1752 + d) (mk r.steps origin at end word) 1764 1814 (inl (omega arith)))) in
        rw q (tried_yes (omega arith) kp refl (rw (← e) (fits_abs w' r₁ g.stack_fits (omega arith) g.cells_fit)))

-- ---- where the running body goes on

pub running_at : (w : List ℕ) (d : ℕ) (c : Slot) → 0 < d → c ≡ get_or (slots w) (1752 + (d - 1)) nil → (c.a ≡ (running (contexts_of (slots w) d)).origin) × (c.b ≡ (running (contexts_of (slots w) d)).at)
unfolding running context_in
running_at w d c h e = (rw (contexts_at (slots w) d c h e), rw (contexts_at (slots w) d c h e))

-- ---- on the running frame

module _ {w : List ℕ} {r : Registers} (at end word : ℕ) (owes : Bool) (c : Slot) (g : Busy w r) (got : c ≡ get_or (slots w) (1752 + (r.depth - 1)) nil) (told : (word % 4096 ≡ c.d % 4096) × (leb 4096 word ≡ owes)) where
  pub inline_takes : r.depth < 12 → lent_by r.depth (word % 4096) ≤ r.used
  inline_takes _ =
      let d = r.depth in
      let k = c.d % 4096 in
      let one : suc (d - 1) ≡ d = omega (arith, g.runs) in
      let lies : Lies (d - 1) k r.used = lent_lies (d - 1) k r.used (rw got (lent_top (slots w) d r.used g.runs g.frames_fit)) g.cells_fit in
      rw told.0 (lies_lent d k r.used (rw one at (lies_up (d - 1) k r.used lies)))

  pub inline_on : {w' : List ℕ} {r' : Perhaps} → Tried (enter_on (slots w) c.a at end word) w r w' r' → Tried (inline at end owes) w r w' r'
  unfolding inline enter_on running context_in
  inline_on t = tried_as (rw (contexts_at (slots w) r.depth c g.runs got, told.0, told.1)) t

-- ---- on a kept frame

module _ {w : List ℕ} {r : Registers} (origin at end first k word : ℕ) (g : Busy w r) (kept : first + 50 ≤ r.used) (ek : k ≡ 600 + first) (told : (word % 4096 ≡ k) × (leb 4096 word ≡ false)) where
  pub call_takes : r.depth < 12 → lent_by r.depth (word % 4096) ≤ r.used
  call_takes _ = rw (told.0, ek) (lies_lent r.depth (600 + first) r.used (inr (inr (omega (arith, g.runs), (omega arith, omega arith)))))

  pub call_on : {w' : List ℕ} {r' : Perhaps} → Tried (enter_on (slots w) origin at end word) w r w' r' → Tried (call origin at end first) w r w' r'
  unfolding call enter_on
  call_on t = let z : 728 + first ≡ 128 + (600 + first) = omega arith in tried_as (rw (values_part (slots w) 728 first 50 r.used kept, told.0, told.1, ek, z)) t

-- ---- a body of the engine's opened

module _ (w w' : List ℕ) (origin at end used : ℕ) (room : 48000 ≤ length w) (fits : used ≤ 1024) (p : slots w' ≡ set (slots w) 1752 (mk 0 origin at end 0)) where
  frame_there : values_at (slots w') 128 50 ≡ values_at (slots w) 128 50
  frame_there = rw p (values_same (set (slots w) 1752 (mk 0 origin at end 0)) (slots w) 128 50 (same_set (slots w) 1752 (mk 0 origin at end 0) 128 _ (inr (omega arith))))

  cells_there : values_at (slots w') 728 used ≡ values_at (slots w) 728 used
  cells_there = rw p (values_same (set (slots w) 1752 (mk 0 origin at end 0)) (slots w) 728 used (same_set (slots w) 1752 (mk 0 origin at end 0) 728 _ (inr (omega arith))))

  aside_there : aside w' ≡ aside w
  aside_there = aside_same w' w (rw p (same_set (slots w) 1752 (mk 0 origin at end 0) 1764 1814 (inl (omega arith))))

  room_there : 48000 ≤ length w'
  room_there = room_of_lem w' (set (slots w) 1752 (mk 0 origin at end 0)) p (rw length-set (wide w room))

  context_there : get_or (slots w') 1752 nil ≡ mk 0 origin at end 0
  context_there = rw p (get_or-set_same (slots w) 1752 (mk 0 origin at end 0) nil (omega (arith, wide w room)))

  pub open_none : {r : Registers} → end ≤ at → r ≡ record { height = 0; depth = 0; used = used; steps = 0; errors = 0; skipping = false } → Opened origin at end used w w' r
  unfolding opening settle leave leave_at at_end contexts_of stack_of desc
  open_none {r} e q =
      let wd = room_there in
      rw q (record { good = omega (arith, lent_none (slots w') used); is = rw (le-leb end at e) (state_path refl refl frame_there cells_there); keeps = aside_there; counted = refl })

  pub open_some : {r : Registers} → at < end → r ≡ record { height = 0; depth = 1; used = used; steps = 0; errors = 0; skipping = false } → Opened origin at end used w w' r
  unfolding opening settle leave leave_at at_end contexts_of context_at context_in stack_of desc
  open_some {r} e q =
      let wd = room_there in
      let fr : lent (slots w') 1 ≤ used = lent_more (slots w) (slots w') 0 used (lent_none (slots w) used) (λ k a b. absurd (omega arith)) (rw context_there (lies_lent 0 0 used (inl refl))) in
      rw q (record { good = omega arith; is = rw (lt-leb end at e) (rw (context_there, frame_there, cells_there)); keeps = aside_there; counted = refl })

-- ---- a step begins

pub goes_is : (m m' : List Slot) (depth next : ℕ) (c : Slot) → c ≡ get_or m (1752 + (depth - 1)) nil → m' ≡ set m (1752 + (depth - 1)) (mk c.kind c.a next c.c c.d) → m' ≡ goes_to m depth next
unfolding goes_to
goes_is m m' depth next c e p = rw e at p

pub begin_done : {w w' : List ℕ} {r r' : Registers} (next : ℕ) → Good w r → 0 < r.depth → r.steps < 4294967295 → slots w' ≡ goes_to (slots w) r.depth next
    → r' ≡ record { height = r.height; depth = r.depth; used = r.used; steps = r.steps + 1; errors = r.errors; skipping = r.skipping } → Begun next w r w' r'
unfolding begun begun_in context_at context_in goes_to
begin_done {w} {w'} {r} {r'} next g d0 sl p q =
    let m = slots w in
    let d = r.depth in
    let k = 1752 + (d - 1) in
    let c = get_or m k nil in
    let v = mk c.kind c.a next c.c c.d in
    let m' = set m k v in
    let room = wide w g.room in
    let big : 2400 ≤ length m' = rw length-set room in
    let rm = room_of_lem w' m' p big in
    let takes : lent_by (d - 1) (c.d % 4096) ≤ r.used = lent_top m d r.used d0 g.frames_fit in
    let there : get_or m' k nil ≡ v = get_or-set_same m k v nil (omega arith) in
    let frames : Same m' m 128 (frame_at (d - 1) + 50) = same_set m k v 128 _ (inr (omega (arith, g.depth_fits))) in
    let cells : Same m' m 728 (728 + r.used) = same_set m k v 728 _ (inr (omega (arith, g.cells_fit))) in
    let below : Same m' m 1752 k = same_set m k v 1752 k (inr (omega arith)) in
    let fr : lent (slots w') d ≤ r.used = rw p (lent_renew m m' d r.used d0 g.frames_fit below (rw there takes)) in
    let cs : contexts_of m' d ≡ context_in v (values_at m (frame_of c) 50) ∷ contexts_of m (d - 1) =
    contexts_renew m m' d r.used d0 g.frames_fit g.cells_fit (λ i a b. frames i a (omega arith)) cells below ∙
    (rw (there, frame_same m' m (d - 1) (c.d % 4096) r.used takes g.cells_fit frames cells)) in
    rw q (record {
      moves = p;
      registers = refl;
      busy = omega arith;
      does =
          rw (contexts_at m d c d0 refl, add-one r.steps)
          (state_path (rw p (stack_same m' m r.height (same_set m k v 0 _ (inr (omega arith))))) (rw p cs)
          (rw p (values_same m' m 128 50 (same_set m k v 128 _ (inr (omega arith)))))
          (rw p (values_same m' m 728 r.used (same_set m k v 728 _ (inr (omega arith))))));
      keeps = aside_same w' w (rw p (same_set m k v 1764 1814 (inl (omega arith))));
      skips = refl;
      counted = refl;
    })

-- and goes back
pub goes_home : (m : List Slot) (depth next at : ℕ) → 1752 + (depth - 1) < length m → at ≡ (get_or m (1752 + (depth - 1)) nil).b → goes_to (goes_to m depth next) depth at ≡ m
unfolding goes_to
goes_home m depth next at h e =
    let k = 1752 + (depth - 1) in
    let c = get_or m k nil in
    rw (get_or-set_same m k (mk c.kind c.a next c.c c.d) nil h, set-set, e) (set-get_or m k nil)

pub goes_nowhere : (m : List Slot) (depth at : ℕ) → at ≡ (get_or m (1752 + (depth - 1)) nil).b → goes_to m depth at ≡ m
unfolding goes_to
goes_nowhere m depth at e = rw e (set-get_or m (1752 + (depth - 1)) nil)
