-- Cells only grow: a run ends with the cells that it began with, and others after them. Assumes nothing.
use Rattle.std.specs.Prelude.{Option, Some, None}
use Prim.Native.Nat.{ℕ}
use mathlib.Core.Path.{◌≡◌, ap, sym, ◌∙◌}
use mathlib.Core.Bool.{false}
use mathlib.Core.List.{List, [], ◌∷◌, ◌++◌, append_assoc, append-nil}
use Rattle.machine.specs.declared.Value.{Value}
use Rattle.machine.specs.declared.Work.{Work}
use Rattle.machine.specs.declared.Work.TheVariants.{Nothing, Fetch, Element, Build, Spell, Utter, Compose, Repeat, Turn, Match, Report}
use Rattle.machine.specs.declared.Next.{Next}
use Rattle.machine.specs.declared.Next.TheVariants.{Works, Inline, Call, Store, Place, Remove, Tally}
use Rattle.machine.specs.declared.Effect.{Effect}
use Rattle.machine.specs.declared.Effect.TheVariants.{Gives, Gives2, Acts}
use Rattle.machine.specs.State.{Entry, val, mark, State}
use Rattle.machine.specs.Literal.{Code}
use Rattle.machine.specs.Contexts.{fault, settle, skipped_in, skipped}
use Rattle.machine.specs.Engine.{limited, pops, push, charge, build, spell, compose, repeat, turn, worked, noted, store, place, remove_at, remove, tally_at, tally, enter, inline, call, does, affected}
use Rattle.machine.specs.Step.{execute, effect_at, begun_in, ended, due_in, step, run, begin}
use Rattle.machine.proofs.Changes.{OnSome, limited_on, provided_on}
use Rattle.machine.proofs.Steps.{Begun, begins, step_by_lem, run_keeps}

module _ (code : Code) (a : List Value) where
  abbrev pub Grown : State → Type 0
  Grown s = (new : List Value) × (s.cells ≡ a ++ new)

  module _ (s : State) (h : Grown s) where
    limited_grown : (u : State) → Grown u → OnSome Grown (limited u)
    limited_grown u g = limited_on Grown u (λ _. g)

    push_grown : (v : Value) → OnSome Grown (push v s)
    unfolding push
    push_grown v = limited_grown _ h

    charge_grown : (new : List Value) (n : ℕ) (v : Value) → OnSome Grown (charge new n v s)
    unfolding charge
    charge_grown new n v = limited_grown _ (h.0 ++ new, ap (λ (l : List Value). l ++ new) h.1 ∙ append_assoc a h.0 new)

    worked_grown : (w : Work) → OnSome Grown (worked code w s)
    unfolding worked build spell compose repeat turn
    worked_grown Nothing = limited_grown s h
    worked_grown (Fetch j) = push_grown _
    worked_grown (Element cell) = push_grown _
    worked_grown (Build lower n) = provided_on _ _ _ (λ _. charge_grown _ _ _)
    worked_grown (Spell start) = charge_grown _ _ _
    worked_grown (Utter start len) = push_grown _
    worked_grown (Compose start len) = charge_grown _ _ _
    worked_grown (Repeat n) = provided_on _ _ _ (λ _. limited_grown _ h)
    worked_grown (Turn n m) = provided_on _ _ _ (λ _. limited_grown _ h)
    worked_grown (Match v w) = push_grown _
    worked_grown (Report v) = provided_on _ _ _ (λ _. limited_grown s h)

    removed_grown : (id n : ℕ) (vs : List Value) (t : List Entry) → OnSome Grown (remove_at id n vs t s)
    unfolding remove_at
    removed_grown id n vs [] = tt
    removed_grown id n vs (val v ∷ t) = tt
    removed_grown id n vs (mark k ∷ t) = provided_on _ _ _ (λ _. limited_grown _ h)

    tallied_grown : (id n : ℕ) (t : List Entry) → OnSome Grown (tally_at id n t s)
    unfolding tally_at
    tallied_grown id n [] = tt
    tallied_grown id n (val v ∷ t) = tt
    tallied_grown id n (mark k ∷ t) = provided_on _ _ _ (λ _. push_grown _)

    does_grown : (x : Next) → OnSome Grown (does code x s)
    unfolding does inline call store place remove tally enter noted pops
    does_grown (Works w) = worked_grown w
    does_grown (Inline start len owes) = limited_grown _ h
    does_grown (Call origin start len first) = provided_on _ _ _ (λ _. limited_grown _ h)
    does_grown (Store j) = provided_on _ _ _ (λ _. limited_grown _ h)
    does_grown (Place n) = provided_on _ _ _ (λ _. limited_grown _ h)
    does_grown (Remove n) = removed_grown _ n _ _
    does_grown Tally = tallied_grown _ _ _

    affected_grown : (e : Option Effect) → OnSome Grown (affected code e s)
    unfolding affected push
    affected_grown None = tt
    affected_grown (Some (Gives x)) = push_grown _
    affected_grown (Some (Gives2 x y)) = limited_grown _ h
    affected_grown (Some (Acts x)) = does_grown x

  step_grown : (s : State) → ended s.contexts ≡ false → Grown s → Grown (step code s)
  unfolding begun_in skipped skipped_in fault settle execute pops
  step_grown s live h = step_by_lem code s Grown (λ t u. Grown u) live acts skips fails (λ t u _ g. g)
    where
      acts : (t : State) → Begun code s t → OnSome Grown (execute code (due_in code s).literal t)
      acts t (begins c cs e) = provided_on _ _ _ (λ _. affected_grown _ h (effect_at (due_in code s).literal _))

      skips : (t : State) → Begun code s t → Grown (skipped t)
      skips t (begins c cs e) = h

      fails : (t : State) → Begun code s t → Grown (fault t)
      fails t (begins c cs e) = h

  pub run_grown : (n : ℕ) (s : State) → Grown s → Grown (run n code s)
  run_grown n s h = run_keeps code Grown step_grown n s h

-- from the cells that a body of the engine's begins with
pub begin_grown : (code : Code) (origin n : ℕ) (frame cells : List Value) → (new : List Value) × ((run n code (begin code origin frame cells)).cells ≡ cells ++ new)
unfolding begin settle
begin_grown code origin n frame cells = run_grown code cells n (begin code origin frame cells) ([], unfold begin in unfold settle in sym (append-nil cells))
