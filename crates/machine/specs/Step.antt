-- One step, and a body under an allowance (01: "a step is one literal executed or skipped; a body operator with its body is one literal";
-- "F (1): ended normally. R (2): ended by recovery at the engine's mark, stack empty. B (3): a step was due and none was left").
-- Assumes nothing.
use Rattle.std.specs.Prelude.{ℕ, zero, suc, Bool, true, false, cond, not, ◌&&◌, List, [], ◌∷◌, eqb, length, get_or, Option as Maybe}
use Rattle.std.proofs.Math.Option.{Option, none, some}
use Rattle.machine.specs.declared.Value.{Value}
use Rattle.machine.specs.declared.Literal.{Literal}
use Rattle.machine.specs.declared.Literal.TheVariants.{Figure, Name, Text, Plain, WithBody}
use Rattle.machine.specs.declared.Effect.{Effect}
use Rattle.machine.specs.State.{Context, State, running}
use Rattle.machine.specs.State as state
use Rattle.machine.specs.Skeleton.{solid}
use Rattle.machine.specs.Literal.{Code, bytes_of, Found, found_at}
use Rattle.machine.specs.Operators.{popped, performed}
use Rattle.machine.specs.Contexts.{fault, settle, skipped}
use Rattle.machine.specs.Engine.{provided, values, has, pops, affected}

-- ---- a literal executed

unfoldable pub effect_at : Literal → State → Maybe Effect
effect_at x s = performed x (get_or (values s) 0 state.zero) (get_or (values s) 1 state.zero)

-- the values that it pops stand above the topmost mark
unfoldable pub execute : Code → Literal → State → Option State
execute code x s = provided (has (popped x) s) (affected code (effect_at x s) (pops (popped x) s))

unfoldable pub executed : State → Option State → State
executed s none = fault s
executed s (some t) = settle t

-- ---- a step

-- UNMARK0, at which skipping stops (2.4.1; R21)
unfoldable pub is_unmark0 : Literal → Bool
is_unmark0 (Figure a) = false
is_unmark0 (Name start len) = false
is_unmark0 (Text start) = false
is_unmark0 (Plain n) = eqb n 192
is_unmark0 (WithBody n start len) = false

-- a step begins: it is counted, and the running context goes past the literal
unfoldable pub begun_in : ℕ → List Context → State → State
begun_in next [] s = s
begun_in next (c ∷ cs) s = record {
  stack = s.stack;
  contexts = record { id = c.id; origin = c.origin; at = next; end = c.end; owes = c.owes; frame = c.frame } ∷ cs;
  frame = s.frame;
  cells = s.cells;
  skipping = s.skipping;
  steps = suc s.steps;
  errors = s.errors;
}

unfoldable pub begun : ℕ → State → State
begun next s = begun_in next s.contexts s

unfoldable pub literal_step : Code → Bool → Literal → State → State
literal_step code true x s = skipped s
literal_step code false x s = executed s (execute code x s)

unfoldable pub ended : List Context → Bool
ended [] = true
ended (c ∷ cs) = false

unfoldable pub step_by : Code → Found → State → State
step_by code f s = literal_step code (s.skipping && not (is_unmark0 f.literal)) f.literal (begun f.next s)

-- the literal that is due in the running context
unfoldable pub due_in : Code → State → Found
due_in code s = let c = running s.contexts in found_at (bytes_of code c.origin) c.at

unfoldable pub step : Code → State → State
step code s = step_by code (due_in code s) s

-- at most n steps
unfoldable pub run : ℕ → Code → State → State
run zero code s = s
run (suc n) code s = let r = run n code (step code s) in cond (ended s.contexts) s r

-- a body of the engine's, with the frame and the cells that it starts with: "an empty stack over a mark that the engine places". A body
-- without literals has ended
unfoldable pub begin : Code → ℕ → List Value → List Value → State
begin code origin frame cells =
    let b = bytes_of code origin in
    settle (record {
      stack = [];
      contexts = record { id = 0; origin = origin; at = solid b 0; end = length b; owes = false; frame = frame } ∷ [];
      frame = frame;
      cells = cells;
      skipping = false;
      steps = 0;
      errors = 0;
    })

-- F 1, R 2, B 3
unfoldable pub outcome : State → ℕ
outcome s = cond (ended s.contexts) (cond s.skipping 2 1) 3
