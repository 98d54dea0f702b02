-- What operations of the table mean where the definitions of the machine say it within a larger one. Assumes nothing.
use Rattle.std.specs.Prelude.{ℕ, zero, suc, ◌+◌, ◌-◌, ◌%◌, ◌<◌, ◌≡◌, Bool, true, false, List, [], ◌∷◌, map, leb, length, get_or, set, take, drop}
use Rattle.std.proofs.Math.Option.{Option}
use Rattle.table.specs.declared.Slot.{Slot}
use Rattle.table.specs.Slots.{nil, mk, slots, asc, copied}
use Rattle.machine.specs.declared.Value.{Value}
use Rattle.machine.specs.declared.Value.TheVariants.{Identifier, Vector}
use Rattle.machine.specs.Limits.{frame_size, most_entries}
use Rattle.machine.specs.State.{Entry, val, Context, State, running}
use Rattle.machine.specs.State as state
use Rattle.machine.specs.Literal.{letters_at}
use Rattle.machine.specs.Contexts.{settle}
use Rattle.machine.specs.Engine.{with_stack, push, charge, enter}
use Rattle.state.specs.declared.Registers.{Registers}
use Rattle.state.specs.Layout.{value_in, entry_in, values_at, frame_at, frame_of, aside, abs, Good, Busy}

-- two values, the second on top
unfoldable pub push_two : Value → Value → State → Option State
push_two v u s = push u (with_stack (val v ∷ s.stack) s)

-- an identifier of the running body
unfoldable pub utter : ℕ → ℕ → State → Option State
utter start len s = push (Identifier (running s.contexts).origin start len) s

-- a mark put under the n slots from a on, by way of the room for entries
unfoldable pub mark_put : List Slot → ℕ → ℕ → ℕ → List Slot
mark_put m a n id = copied (set (copied m a 1814 n) a (mk 5 id 0 0 0)) 1814 (a + 1) n

-- an element of the running frame
unfoldable pub fetch : ℕ → State → Option State
fetch j s = push (get_or (running s.contexts).frame j state.zero) s

-- a cell
unfoldable pub element : ℕ → State → Option State
element k s = push (get_or s.cells k state.zero) s

-- bytes as numbers, one slot each
unfoldable pub letter_slots : List ℕ → List Slot
letter_slots d = map (λ (b : ℕ). mk 1 b 1 0 0) d

-- n cells more are charged, and the entry a, now the topmost, is the vector of them
pub record VectorPut (a lower n : ℕ) (w : List ℕ) (r : Registers) (w' : List ℕ) (r' : Registers) : Type 0 where
  pub put : slots w' ≡ set (slots w) a (mk 3 r.used lower n 0)
  pub registers : r' ≡ record { height = a + 1; depth = r.depth; used = r.used + n; steps = r.steps; errors = r.errors; skipping = r.skipping }

-- the string token at a place of the bytes b becomes a vector with lower bound 0
unfoldable pub spell : List ℕ → ℕ → State → Option State
spell b start s = let l = letters_at b start in charge l 0 (Vector (length s.cells) 0 (length l)) s

-- a body entered from `at` to `end`
abbrev pub entered : ℕ → ℕ → ℕ → Bool → List Value → State → Context
entered origin at end owes frame s = record { id = s.steps; origin = origin; at = at; end = end; owes = owes; frame = frame }

-- on the frame that the last word of its context says, in the table with the slots m
unfoldable pub enter_on : List Slot → ℕ → ℕ → ℕ → ℕ → State → Option State
enter_on m origin at end word s = enter (entered origin at end (leb 4096 word) (values_at m (128 + word % 4096) frame_size) s) s

-- with a copy of the running frame
unfoldable pub inline : ℕ → ℕ → Bool → State → Option State
inline at end owes s = let c = running s.contexts in enter (entered c.origin at end owes c.frame s) s

-- with the frame that stands in the cells from `first` on
unfoldable pub call : ℕ → ℕ → ℕ → ℕ → State → Option State
call origin at end first s = enter (entered origin at end false (take frame_size (drop first s.cells)) s) s

-- the running frame is the running context's own, and nothing else has changed
pub record Owned (w : List ℕ) (r : Registers) (w' : List ℕ) : Type 0 where
  pub busy : Busy w' r
  pub own : frame_of (get_or (slots w') (1752 + (r.depth - 1)) nil) ≡ frame_at (r.depth - 1)
  pub same : abs w' r ≡ abs w r
  pub keeps : aside w' ≡ aside w
  pub stands : (k : ℕ) → k < most_entries → get_or (slots w') k nil ≡ get_or (slots w) k nil

-- n slots from b on are 0
unfoldable pub filled : List Slot → ℕ → ℕ → List Slot
filled m b zero = m
filled m b (suc n) = set (filled m b n) (b + n) (mk 1 0 1 0 0)

-- a body of the engine's begins, from `at` to `end`; one without literals has ended
unfoldable pub opening : ℕ → ℕ → ℕ → List Value → List Value → State
opening origin at end frame cells = settle (record {
  stack = [];
  contexts = record { id = 0; origin = origin; at = at; end = end; owes = false; frame = frame } ∷ [];
  frame = frame;
  cells = cells;
  skipping = false;
  steps = 0;
  errors = 0;
})

pub record Opened (origin at end used : ℕ) (w w' : List ℕ) (r : Registers) : Type 0 where
  pub good : Good w' r
  pub is : abs w' r ≡ opening origin at end (values_at (slots w) 128 frame_size) (values_at (slots w) 728 used)
  pub keeps : aside w' ≡ aside w
  pub counted : r.steps ≡ 0

-- a slot where marks may stand, and where every slot is a value
unfoldable pub entry_or : Bool → Slot → Entry
entry_or true v = entry_in v
entry_or false v = val (value_in v)

-- the n slots from b on, as a section lists them
unfoldable pub shown_from : Bool → List Slot → ℕ → ℕ → List Entry
shown_from marks m b n = map (entry_or marks) (asc m b n)
