-- Marks, contexts and mark recovery (000, 2.4.1; 01, The machine: "skipping starts after the literal that was in progress in the body
-- recovered to. If that body ends first, its context is left, its marks are dead and recovery starts again. Reaching the engine's mark
-- ends the page"; R18 to R24). Each is a recursion down the stack or the contexts. In order: the stack in two parts; a context by
-- identity; recovery; the end of bodies; the same on states. Assumes nothing.
use Rattle.std.specs.Prelude.{ℕ, suc, Bool, true, false, cond, List, [], ◌∷◌, eqb, leb, ltb, length}
use Rattle.machine.specs.declared.Value.{Value}
use Rattle.machine.specs.Limits.{most_entries}
use Rattle.machine.specs.State.{Entry, val, mark, Context, State, zero}

-- ---- the stack in two parts

-- the values above the topmost mark
unfoldable pub above : List Entry → List Value
above [] = []
above (val v ∷ s) = v ∷ above s
above (mark k ∷ s) = []

-- the topmost mark and what is below it
unfoldable pub beneath : List Entry → List Entry
beneath [] = []
beneath (val v ∷ s) = beneath s
beneath (mark k ∷ s) = mark k ∷ s

unfoldable pub over : List Value → List Entry → List Entry
over [] s = s
over (v ∷ vs) s = val v ∷ over vs s

-- ---- contexts

-- no literal is left in it
unfoldable pub at_end : Context → Bool
at_end c = leb c.end c.at

-- the contexts from the one with the identity k on down; none where it is no longer in progress
unfoldable pub from : ℕ → List Context → List Context
from k [] = []
from k (c ∷ cs) = cond (eqb k c.id) (c ∷ cs) (from k cs)

-- ---- where recovery and the end of a body lead; `failed`: a literal failed on the way

pub record Spot : Type 0 where
  pub stack : List Entry
  pub contexts : List Context
  pub skipping : Bool
  pub failed : Bool

-- a mark of a context that has no literal left: that context is left, its marks are dead, and recovery starts again
unfoldable pub landed_at : Bool → ℕ → List Entry → Context → List Context → (List Context → Spot) → Spot
landed_at true k s c cs again = again cs
landed_at false k s c cs again = record { stack = mark k ∷ s; contexts = c ∷ cs; skipping = true; failed = false }

-- a mark whose context is no longer in progress is dead, and is dropped
unfoldable pub landed : ℕ → List Entry → List Context → List Context → (List Context → Spot) → Spot
landed k s cs [] again = again cs
landed k s cs (c ∷ rest) again = landed_at (at_end c) k s c rest again

-- down to the topmost mark that is not dead, leaving the contexts above its own; or to the engine's mark
unfoldable pub recover : List Entry → List Context → Spot
recover [] cs = record { stack = []; contexts = []; skipping = true; failed = false }
recover (val v ∷ s) cs = recover s cs
recover (mark k ∷ s) cs = landed k s cs (from k cs) (recover s)

unfoldable pub failing : Spot → Spot
failing p = record { stack = p.stack; contexts = p.contexts; skipping = p.skipping; failed = true }

-- after the body of an IFELSE 0 is pushed; where there is no room the IFELSE fails (R19)
unfoldable pub leave_at : Bool → Bool → Bool → List Entry → Context → List Context → (List Entry → Spot) → Spot
leave_at false owes room s c cs again = record { stack = s; contexts = c ∷ cs; skipping = false; failed = false }
leave_at true false room s c cs again = again s
leave_at true true true s c cs again = again (val zero ∷ s)
leave_at true true false s c cs again = failing (recover s cs)

-- contexts that have ended are left, in the step that ended them
unfoldable pub leave : List Entry → List Context → Spot
leave s [] = record { stack = s; contexts = []; skipping = false; failed = false }
leave s (c ∷ cs) = leave_at (at_end c) c.owes (ltb (length s) most_entries) s c cs (λ t. leave t cs)

-- skipping, a context that has ended is left and recovery starts again
unfoldable pub skip_at : Bool → List Entry → Context → List Context → Spot
skip_at true s c cs = recover s cs
skip_at false s c cs = record { stack = s; contexts = c ∷ cs; skipping = true; failed = false }

-- ---- the same on states

abbrev pub placed : State → Spot → State
placed s p = record {
  stack = p.stack;
  contexts = p.contexts;
  frame = s.frame;
  cells = s.cells;
  skipping = p.skipping;
  steps = s.steps;
  errors = cond p.failed (suc s.errors) s.errors;
}

-- after a literal that failed
unfoldable pub fault : State → State
fault s = placed s (failing (recover s.stack s.contexts))

-- after a literal that did not fail
unfoldable pub settle : State → State
settle s = placed s (leave s.stack s.contexts)

unfoldable pub skipped_in : State → List Context → State
skipped_in s [] = s
skipped_in s (c ∷ cs) = placed s (skip_at (at_end c) s.stack c cs)

-- after a literal that was passed over
unfoldable pub skipped : State → State
skipped s = skipped_in s s.contexts
