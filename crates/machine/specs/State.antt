-- The state of the machine (000, 2.3; 01, The machine). Assumes nothing.
use Rattle.std.specs.Prelude.{ℕ, Bool, false, List, [], ◌∷◌, pos, replicate}
use Rattle.machine.specs.declared.Value.{Value}
use Rattle.machine.specs.declared.Value.TheVariants.{Number}
use Rattle.machine.specs.Limits.{frame_size}

-- a mark carries the identity of the context that placed it
pub data Entry : Type 0 where
  val : Value → Entry
  mark : ℕ → Entry

-- a body in execution. `id` is the number of the step that entered it, 0 for the engine's own, so no two contexts of a run share it.
-- `at` is where its next literal stands, past comments; at `end` there is none. `owes`: the body of an IFELSE, after which 0 is pushed
pub record Context : Type 0 where
  pub id : ℕ
  pub origin : ℕ
  pub at : ℕ
  pub end : ℕ
  pub owes : Bool
  pub frame : List Value

-- `stack` with its top first, above the engine's mark; `contexts` with the running one first, the engine's body last. No contexts: the
-- run has ended, normally or (skipping) at the engine's mark. `frame` is the engine's body's, kept when its context is left
pub record State : Type 0 where
  pub stack : List Entry
  pub contexts : List Context
  pub frame : List Value
  pub cells : List Value
  pub skipping : Bool
  pub steps : ℕ
  pub errors : ℕ

-- "all Number 0 before the preamble"
abbrev pub zero : Value
zero = Number (record { num = pos 0; den = 1 })

unfoldable pub zero_frame : List Value
zero_frame = replicate frame_size zero

-- the running context; where there is none, one without identity and frame, which no literal meets
unfoldable pub running : List Context → Context
running [] = record { id = 0; origin = 0; at = 0; end = 0; owes = false; frame = [] }
running (c ∷ cs) = c
