-- Every moment of a run is within the limits, and every frame has its size. In order: the stack of recovery and of a body's end; frames;
-- a step; a run. Assumes nothing.
use Prim.Native.Nat.{ℕ, ◌≤◌, zero-le}
use native.Mathlib.Omega.{arith}
use mathlib.Core.Path.{◌≡◌, ◌∙◌}
use mathlib.Core.Bool.{false}
use mathlib.Core.List.{List, [], ◌∷◌}
use lib.ListN.{length, length-set}
use Rattle.machine.specs.declared.Value.{Value}
use Rattle.machine.specs.Limits.{frame_size, most_entries, most_contexts, most_cells}
use Rattle.machine.specs.State.{Entry, Context, State, running}
use Rattle.machine.specs.Literal.{Code}
use Rattle.machine.specs.Contexts.{Spot, placed, failing, fault, settle, skipped_in, skipped}
use Rattle.machine.specs.Engine.{pops, last_frame, noted, store_in}
use Rattle.machine.specs.Step.{begun_in, ended, due_in, step, run, begin}
use Rattle.machine.specs.Isolation.{Framed, Bounded}
use Rattle.machine.proofs.Recovery.{Lower, Lands, recover_lands, failing_lands, leave_lands, skip_lands}
use Rattle.machine.proofs.Changes.{Change, pushes, changes, stores, places, removes, enters, Within}
use Rattle.machine.proofs.Steps.{Begun, begins, step_by_lem, Executed, execute_is, run_keeps}

-- ---- the stack of recovery and of a body's end

-- no more entries and contexts than the limits, and frames of their size
abbrev Few : List Entry → Type 0
Few s = length s ≤ most_entries

abbrev Sized : List Context → Type 0
Sized cs = (length cs ≤ most_contexts) × Framed cs

lower : Lower Few Sized
lower = record {
  no_entries = zero-le;
  entries_under = λ x s h. omega arith;
  owed = λ s l h. l;
  no_contexts = (zero-le, tt);
  contexts_under = λ c cs h. (omega (arith, h.0), h.1.1);
}

-- a state with what they leave
landed_bounded : (t : State) (p : Spot) → length t.cells ≤ most_cells → length t.frame ≡ frame_size → Lands Few Sized p → Bounded (placed t p)
landed_bounded t p c f h = record { entries = h.stack_is; contexts_are = h.contexts_are.0; cells_are = c; frame_is = f; frames_are = h.contexts_are.1 }

-- ---- frames

last_frame_lem : (f : List Value) (cs : List Context) → length f ≡ frame_size → Framed cs → length (last_frame f cs) ≡ frame_size
unfolding last_frame
last_frame_lem f [] h g = h
last_frame_lem f (c ∷ cs) h g = last_frame_lem c.frame cs g.0 g.1

store_framed : (j : ℕ) (v : Value) (cs : List Context) → Framed cs → Framed (store_in j v cs)
unfolding store_in
store_framed j v [] f = f
store_framed j v (c ∷ cs) f = (length-set c.frame j v ∙ f.0, f.1)

module _ (t : State) (frame_is : length t.frame ≡ frame_size) (frames : Framed t.contexts) (runs : length (running t.contexts).frame ≡ frame_size) where
  change_framed : (u : State) → Change t u → (length u.frame ≡ frame_size) × Framed u.contexts
  unfolding noted pops
  change_framed _ (pushes vs) = (frame_is, frames)
  change_framed _ (changes vs cells) = (frame_is, frames)
  change_framed _ (stores j v) = let f = store_framed j v t.contexts frames in (last_frame_lem t.frame (store_in j v t.contexts) frame_is f, f)
  change_framed _ (places vs ws) = (frame_is, frames)
  change_framed _ (removes vs k l e i) = (frame_is, frames)
  change_framed _ (enters c i h) = (frame_is, (h runs, frames))

-- ---- a step

pub settle_bounded : (u : State) → Within u → length u.frame ≡ frame_size → Framed u.contexts → Bounded (settle u)
unfolding settle
settle_bounded u w h f = landed_bounded u _ w.cells_are h (leave_lands lower u.stack u.contexts w.entries (w.contexts_are, f))

pub step_bounded : (code : Code) (s : State) → ended s.contexts ≡ false → Bounded s → Bounded (step code s)
unfolding begun_in skipped skipped_in fault failing pops running
step_bounded code s live b = step_by_lem code s Bounded Executed live (λ t _. execute_is code _ t) skips fails settles
  where
    sized : (c : Context) (cs : List Context) → s.contexts ≡ c ∷ cs → Sized (begun_in (due_in code s).next (c ∷ cs) s).contexts
    sized c cs e = (rw e at b.contexts_are, rw e at b.frames_are)

    skips : (t : State) → Begun code s t → Bounded (skipped t)
    skips t (begins c cs e) = landed_bounded t _ b.cells_are b.frame_is (skip_lands lower s.stack _ cs b.entries (sized c cs e))

    fails : (t : State) → Begun code s t → Bounded (fault t)
    fails t (begins c cs e) = landed_bounded t _ b.cells_are b.frame_is (failing_lands lower _ (recover_lands lower s.stack _ b.entries (sized c cs e)))

    settles : (t u : State) → Begun code s t → Executed t u → Bounded (settle u)
    settles t u (begins c cs e) (n, (h, w)) = done (change_framed (pops n t) b.frame_is (sized c cs e).1 (sized c cs e).1.0 u h)
      where
        done : (length u.frame ≡ frame_size) × Framed u.contexts → Bounded (settle u)
        done (k, f) = settle_bounded u w k f

-- ---- a run

pub begin_bounded : (code : Code) (origin : ℕ) (frame cells : List Value) → length frame ≡ frame_size → length cells ≤ most_cells → Bounded (begin code origin frame cells)
unfolding begin
begin_bounded code origin frame cells h k = settle_bounded _ (record { entries = zero-le; contexts_are = omega arith; cells_are = k }) h (h, tt)

pub run_bounded : (code : Code) (n : ℕ) (s : State) → Bounded s → Bounded (run n code s)
run_bounded code = run_keeps code Bounded (step_bounded code)
