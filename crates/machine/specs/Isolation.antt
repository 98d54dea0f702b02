-- What demand 3's last sentence and the limits speak of: "While a called body runs, nothing at or below a running caller's topmost mark
-- changes, nor a caller's frame". In order: the moments of a run; callers and what is theirs; protected; bounded. Assumes nothing.
use Rattle.std.specs.Prelude.{ℕ, zero, suc, ◌≤◌, ◌≡◌, Bool, false, cond, ◌||◌, List, [], ◌∷◌, eqb, length, get_or}
use Rattle.machine.specs.Limits.{frame_size, most_entries, most_contexts, most_cells}
use Rattle.machine.specs.State.{Entry, val, mark, Context, State, zero_frame}
use Rattle.machine.specs.Literal.{Code}
use Rattle.machine.specs.Contexts.{from}
use Rattle.machine.specs.Step.{run, begin}
use Rattle.machine.specs.Page.{preamble_of, page_start}

-- ---- the moments of page n's run, by the steps done; page 0 is the preamble

-- the bodies that page n's literals may stand in
unfoldable pub code_at : List (List ℕ) → ℕ → Code
code_at bodies zero = preamble_of bodies ∷ []
code_at bodies (suc n) = preamble_of bodies ∷ get_or bodies (suc n) [] ∷ []

unfoldable pub start_at : ℕ → List (List ℕ) → ℕ → State
start_at allowance bodies zero = begin (preamble_of bodies ∷ []) 0 zero_frame []
start_at allowance bodies (suc n) = page_start allowance (preamble_of bodies) (get_or bodies (suc n) [])

unfoldable pub moment : ℕ → List (List ℕ) → ℕ → ℕ → State
moment allowance bodies n i = run i (code_at bodies n) (start_at allowance bodies n)

-- ---- callers, and what is theirs

-- the context with the identity d is in progress
unfoldable pub member : ℕ → List Context → Bool
member d [] = false
member d (c ∷ cs) = eqb d c.id || member d cs

unfoldable pub below : List Context → List Context
below [] = []
below (c ∷ cs) = cs

-- the contexts below the one with the identity d: the one that called it, that one's caller, and so on
unfoldable pub callers_of : ℕ → List Context → List Context
callers_of d cs = below (from d cs)

-- the topmost mark placed by one of the contexts cs, and everything below it
unfoldable pub guarded : List Context → List Entry → List Entry
guarded cs [] = []
guarded cs (val v ∷ s) = guarded cs s
guarded cs (mark k ∷ s) = cond (member k cs) (mark k ∷ s) (guarded cs s)

-- from the one moment to the other, the callers of d (with their frames) and the stack from their topmost mark down are the same
pub record Protected (d : ℕ) (before after : State) : Type 0 where
  pub callers : callers_of d after.contexts ≡ callers_of d before.contexts
  pub stack : guarded (callers_of d before.contexts) after.stack ≡ guarded (callers_of d before.contexts) before.stack

-- ---- the limits

abbrev pub Framed : List Context → Type 0
Framed [] = Unit
Framed (c ∷ cs) = (length c.frame ≡ frame_size) × Framed cs

pub record Bounded (s : State) : Type 0 where
  pub entries : length s.stack ≤ most_entries
  pub contexts_are : length s.contexts ≤ most_contexts
  pub cells_are : length s.cells ≤ most_cells
  pub frame_is : length s.frame ≡ frame_size
  pub frames_are : Framed s.contexts
