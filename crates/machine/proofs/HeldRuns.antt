-- A literal, a step, a run and the start of one keep a claim held, where the literal that is due has its body claimed and the running body
-- stays claimed past it. Assumes nothing.
use Prim.Native.Nat.{ℕ}
use native.Mathlib.Nat.{le_refl}
use mathlib.Core.Path.{◌≡◌, subst}
use mathlib.Core.Bool.{false}
use mathlib.Core.List.{List, ◌∷◌}
use lib.ListN.{length, get_or}
use Rattle.machine.specs.declared.Value.{Value}
use Rattle.machine.specs.declared.Literal.{Literal}
use Rattle.machine.specs.declared.Literal.TheVariants.{WithBody}
use Rattle.machine.specs.Limits.{frame_size}
use Rattle.machine.specs.State.{Entry, val, mark, Context, State, zero, running}
use Rattle.machine.specs.Skeleton.{solid}
use Rattle.machine.specs.Literal.{Code, bytes_of}
use Rattle.machine.specs.Operators.{popped}
use Rattle.machine.specs.Contexts.{Spot, placed, fault, settle, skipped_in, skipped}
use Rattle.machine.specs.Engine.{values, pops}
use Rattle.machine.specs.Step.{effect_at, execute, begun_in, ended, due_in, step, run, begin}
use Rattle.machine.specs.Isolation.{Framed, Bounded}
use Rattle.machine.proofs.Recovery.{Lower, Lands, recover_lands, failing_lands, leave_lands, skip_lands}
use Rattle.machine.proofs.Changes.{OnSome, provided_on}
use Rattle.machine.proofs.Steps.{Begun, begins, step_by_lem, run_keeps}
use Rattle.machine.proofs.WithinLimits.{step_bounded}
use Rattle.machine.proofs.Throughout.{All, OnStack, InFrames, Throughout, all_at, pointing_weaker}
use Rattle.machine.proofs.Effects.{performed_on}
use Rattle.machine.proofs.Held.{Claim, OfValue, OfContext, Held, values_held, pops_held, affected_held}

under : (P : Value → Type 0) (x : Entry) (s : List Entry) → OnStack P (x ∷ s) → OnStack P s
under P (val v) s h = h.1
under P (mark k) s h = h

-- the whole body of an origin
abbrev pub Whole : {code : Code} → Claim code → ℕ → Type 0
Whole {code = code} K origin = K.OfRest origin (solid (bytes_of code origin) 0) (length (bytes_of code origin))

module _ (code : Code) (K : Claim code) where
  -- ---- a literal

  -- what it holds is a body of the running one's origin
  abbrev pub Own : State → Literal → Type 0
  Own s x = (n start len : ℕ) → x ≡ WithBody n start len → K.OfBody (running s.contexts).origin start len

  execute_held : (x : Literal) (s : State) → Held K s → length (running s.contexts).frame ≡ frame_size → Own s x → OnSome (Held K) (execute code x s)
  unfolding execute effect_at pops
  execute_held x s h framed own =
      let v = get_or (values s) 0 zero in
      provided_on _ _ _ (λ _. affected_held code K (pops (popped x) s) (pops_held code K s h (popped x)) framed (effect_at x s) (performed_on K.OfBody _ x _ v _ own
      (pointing_weaker _ (length s.cells) (le_refl _) (K.OfOperator s.cells) (λ origin start len first. K.OfBody origin start len) (K.points s.cells) v (all_at (OfValue K s.cells) (values s) 0 zero (values_held code K s h) tt))))

  -- what recovery and the end of bodies leave, among the cells
  abbrev Frames : List Value → List Context → Type 0
  Frames cells cs = InFrames (OfValue K cells) cs × All (OfContext K) cs

  lower : (cells : List Value) → Lower (OnStack (OfValue K cells)) (Frames cells)
  lower cells = record {
    no_entries = tt;
    entries_under = λ x s h. under (OfValue K cells) x s h;
    owed = λ s l h. (tt, h);
    no_contexts = (tt, tt);
    contexts_under = λ c cs h. (h.0.1, h.1.1);
  }

  landed_held : (t : State) (p : Spot) → All (OfValue K t.cells) t.frame → All (OfValue K t.cells) t.cells → Lands (OnStack (OfValue K t.cells)) (Frames t.cells) p → Held K (placed t p)
  landed_held t p f g h = record { values_are = record { entries_are = h.stack_is; frames_are = h.contexts_are.0; frame_is = f; cells_are = g }; contexts_are = h.contexts_are.1 }

  settle_held : (u : State) → Held K u → Held K (settle u)
  unfolding settle
  settle_held u h =
      let t = h.values_are in
      landed_held u _ t.frame_is t.cells_are (leave_lands (lower u.cells) u.stack u.contexts t.entries_are (t.frames_are, h.contexts_are))

  -- ---- a step

  -- the literal that is due holds a claimed body, and past it the running body is claimed
  pub record Passes (s : State) : Type 0 where
    pub own : Own s (due_in code s).literal
    pub past : K.OfRest (running s.contexts).origin (due_in code s).next (running s.contexts).end

  pub step_held : (s : State) → ended s.contexts ≡ false → Bounded s → Passes s → Held K s → Held K (step code s)
  unfolding begun_in skipped skipped_in fault running
  step_held s live b p h = step_by_lem code s (Held K) (λ t u. Held K u) live acts skips fails (λ t u _ g. settle_held u g)
    where
      r : Throughout (OfValue K s.cells) s
      r = h.values_are

      frames : (c : Context) (cs : List Context) → s.contexts ≡ c ∷ cs → InFrames (OfValue K s.cells) (c ∷ cs) × (K.OfRest c.origin (due_in code s).next c.end × All (OfContext K) cs)
      frames c cs e = (
        subst (InFrames (OfValue K s.cells)) e r.frames_are,
        (subst (λ (ds : List Context). K.OfRest (running ds).origin (due_in code s).next (running ds).end) e p.past, (subst (All (OfContext K)) e h.contexts_are).1),
      )

      acts : (t : State) → Begun code s t → OnSome (Held K) (execute code (due_in code s).literal t)
      acts t (begins c cs e) =
          let f = frames c cs e in
          execute_held (due_in code s).literal _ (record { values_are = record { entries_are = r.entries_are; frames_are = f.0; frame_is = r.frame_is; cells_are = r.cells_are }; contexts_are = f.1 })
          (subst Framed e b.frames_are).0 (λ n start len z. subst (λ (ds : List Context). K.OfBody (running ds).origin start len) e (p.own n start len z))

      skips : (t : State) → Begun code s t → Held K (skipped t)
      skips t (begins c cs e) = landed_held t _ r.frame_is r.cells_are (skip_lands (lower s.cells) s.stack _ cs r.entries_are (frames c cs e))

      fails : (t : State) → Begun code s t → Held K (fault t)
      fails t (begins c cs e) = landed_held t _ r.frame_is r.cells_are (failing_lands (lower s.cells) _ (recover_lands (lower s.cells) s.stack _ r.entries_are (frames c cs e)))

  -- ---- a run

  -- with what else the steps keep, from which the literals that are due pass
  pub run_held : (Q : State → Type 0) → ((s : State) → ended s.contexts ≡ false → Q s → Q (step code s)) → ((s : State) → ended s.contexts ≡ false → Held K s → Q s → Passes s)
      → (n : ℕ) (s : State) → Bounded s → Q s → Held K s → Held K (run n code s) × Q (run n code s)
  run_held Q keeps passes n s b q h =
      let r = run_keeps code (λ t. Bounded t × Held K t × Q t)
      (λ t live g. (step_bounded code t live g.0, step_held t live g.0 (passes t live g.1 g.2) g.1, keeps t live g.2)) n s (b, h, q) in
      (r.1, r.2)

  pub begin_held : (origin : ℕ) (frame cells : List Value) → Whole K origin → All (OfValue K cells) frame → All (OfValue K cells) cells
      → Held K (begin code origin frame cells)
  unfolding begin
  begin_held origin frame cells r f g = settle_held _ (record { values_are = record { entries_are = tt; frames_are = (f, tt); frame_is = f; cells_are = g }; contexts_are = (r, tt) })
