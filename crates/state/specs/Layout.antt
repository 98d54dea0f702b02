-- How the state of the machine lies in a table of 2400 slots and a few registers: the stack in the slots 0 to 127; from 128 + 50 i on the
-- frame of context i, once it has been stored to; the cells from 728 on; context i in the slot 1752 + i; from 1764 on a frame kept aside;
-- from 1814 on room for 128 entries on their way. The table is read totally: whatever words stand in it, they are a state. In order: a
-- value in a slot; the parts; the state; what holds of it; what an operation promises. Assumes nothing.
use Rattle.std.specs.Prelude.{◌≡◌, true, false, Option as Maybe, Some, None, IfSome, cond, ◌&&◌, List, [], ◌∷◌, map, ℕ, zero, suc, ◌+◌, ◌-◌, ◌*◌, ◌%◌, ◌≤◌, ◌<◌, eqb, leb, length, get_or, set, take}
use Rattle.std.proofs.Math.Option.{Option, none, some}
use Rattle.std.specs.Int.{w32}
use Rattle.std.proofs.Common.{to_z}
use Rattle.table.specs.declared.Slot.{Slot}
use Rattle.table.specs.Slots.{nil, mk, slots, asc, desc}
use Rattle.machine.specs.declared.Value.{Value}
use Rattle.machine.specs.declared.Value.TheVariants.{Number, Identifier, Vector, Operator}
use Rattle.machine.specs.Limits.{frame_size, most_entries, most_contexts, most_cells, scratch_size}
use Rattle.machine.specs.State.{Entry, val, mark, Context, State}
use Rattle.machine.specs.State as state
use Rattle.machine.specs.Contexts.{Spot}
use Rattle.machine.specs.Step.{begun}
use Rattle.state.specs.declared.Registers.{Registers}
use Rattle.state.specs.declared.Tops.{Tops}

-- ---- a value in a slot: its kind, then its words (01: "A value is five signed words")

-- a vector's words are taken below 2^31, so that sums and numbers made of them fit a word, whatever the table holds
abbrev pub half : ℕ → ℕ
half n = n % 2147483648

unfoldable pub value_in : Slot → Value
value_in v =
    cond (eqb v.kind 2) (Identifier v.a v.b v.c)
    (cond (eqb v.kind 3) (Vector (half v.a) (half v.b) (half v.c))
    (cond (eqb v.kind 4) (Operator v.a v.b v.c v.d)
    (Number (record { num = to_z w32 v.a; den = v.b }))))

-- kind 5: a mark, with the identity of the context that placed it
unfoldable pub entry_in : Slot → Entry
entry_in v = cond (eqb v.kind 5) (mark v.a) (val (value_in v))

-- ---- the parts

unfoldable pub stack_of : List Slot → ℕ → List Entry
stack_of m n = map entry_in (desc m 0 n)

unfoldable pub values_at : List Slot → ℕ → ℕ → List Value
values_at m b n = map value_in (asc m b n)

abbrev pub frame_at : ℕ → ℕ
frame_at i = 128 + 50 * i

-- Until its body stores to it, a frame stays where it was found: in the cells, or where the caller's is. The last word of a context says how
-- many slots from 128 on it lies, and from 4096 on that the context owes too.
abbrev pub frame_of : Slot → ℕ
frame_of v = 128 + v.d % 4096

-- identity, origin, place, end, frame and owes
unfoldable pub context_in : Slot → List Value → Context
context_in v f = record { id = v.kind; origin = v.a; at = v.b; end = v.c; owes = leb 4096 v.d; frame = f }

unfoldable pub context_at : List Slot → ℕ → Context
context_at m i = let v = get_or m (1752 + i) nil in context_in v (values_at m (frame_of v) frame_size)

-- d contexts, the running one first
unfoldable pub contexts_of : List Slot → ℕ → List Context
contexts_of m zero = []
contexts_of m (suc i) = context_at m i ∷ contexts_of m i

unfoldable pub aside : List ℕ → List Value
aside w = values_at (slots w) 1764 frame_size

-- ---- the state

abbrev pub abs : List ℕ → Registers → State
abs w r = record {
  stack = stack_of (slots w) r.height;
  contexts = contexts_of (slots w) r.depth;
  frame = values_at (slots w) 128 frame_size;
  cells = values_at (slots w) 728 r.used;
  skipping = r.skipping;
  steps = r.steps;
  errors = r.errors;
}

-- ---- what holds of it

-- how many cells the frame of context i takes, which lies k slots from 128 on: its own, or that of a context below it, none; one in the
-- cells those up to its end; anything else, and one of the engine's body in the cells, more than there are
unfoldable pub lent_by : ℕ → ℕ → ℕ
lent_by i k = cond (eqb k (50 * i)) 0 (cond (leb (k + 50) (50 * i)) 0 (cond (leb 1 i && leb 600 k) (k - 550) (suc most_cells)))

-- the most that one of d contexts takes: a + (b - a) is the larger of two
unfoldable pub lent : List Slot → ℕ → ℕ
lent m zero = 0
lent m (suc i) = lent m i + (lent_by i ((get_or m (1752 + i) nil).d % 4096) - lent m i)

-- between steps
pub record Good (w : List ℕ) (r : Registers) : Type 0 where
  pub room : scratch_size ≤ length w
  pub stack_fits : r.height ≤ most_entries
  pub depth_fits : r.depth ≤ most_contexts
  pub cells_fit : r.used ≤ most_cells
  pub frames_fit : lent (slots w) r.depth ≤ r.used
  pub errors_fit : r.errors ≤ r.steps

-- within a step: there is a running context, the step is counted, an error of it not yet
pub record Busy (w : List ℕ) (r : Registers) : Type 0 where
  pub room : scratch_size ≤ length w
  pub stack_fits : r.height ≤ most_entries
  pub depth_fits : r.depth ≤ most_contexts
  pub runs : 0 < r.depth
  pub cells_fit : r.used ≤ most_cells
  pub frames_fit : lent (slots w) r.depth ≤ r.used
  pub errors_fit : r.errors < r.steps
  pub steps_fit : r.steps < 4294967296

-- ---- what an operation promises

-- from the table w and the registers r, what means f made w' and r'
pub record Done (f : State → State) (w : List ℕ) (r : Registers) (w' : List ℕ) (r' : Registers) : Type 0 where
  pub good : Good w' r'
  pub does : abs w' r' ≡ f (abs w r)
  pub keeps : aside w' ≡ aside w
  pub counted : r'.steps ≡ r.steps

-- the registers that an operation answers, if it has not failed
abbrev pub Perhaps : Type 0
Perhaps = Maybe Registers

abbrev pub shown : List ℕ → Perhaps → Option State
shown w (Some r) = some (abs w r)
shown w None = none

-- the same of what may fail: then the answer is none, and the table is as before
pub record Tried (f : State → Option State) (w : List ℕ) (r : Registers) (w' : List ℕ) (q : Perhaps) : Type 0 where
  pub busy : IfSome q (Busy w')
  pub does : shown w' q ≡ f (abs w r)
  pub back : q ≡ None → w' ≡ w
  pub keeps : aside w' ≡ aside w
  pub counted : IfSome q (λ r'. r'.steps ≡ r.steps)

-- of the contexts at `depth` the running one goes on at `next`
unfoldable pub goes_to : List Slot → ℕ → ℕ → List Slot
goes_to m depth next = let v = get_or m (1752 + (depth - 1)) nil in set m (1752 + (depth - 1)) (mk v.kind v.a next v.c v.d)

-- a step begun: the running context goes on at `next`
pub record Begun (next : ℕ) (w : List ℕ) (r : Registers) (w' : List ℕ) (r' : Registers) : Type 0 where
  pub moves : slots w' ≡ goes_to (slots w) r.depth next
  pub registers : r' ≡ record { height = r.height; depth = r.depth; used = r.used; steps = r.steps + 1; errors = r.errors; skipping = r.skipping }
  pub busy : Busy w' r'
  pub does : abs w' r' ≡ begun next (abs w r)
  pub keeps : aside w' ≡ aside w
  pub skips : r'.skipping ≡ r.skipping
  pub counted : r'.steps ≡ r.steps + 1

-- so many entries and so many contexts, after recovery
unfoldable pub spot : List Slot → ℕ → ℕ → Spot
spot m height depth = record { stack = stack_of m height; contexts = contexts_of m depth; skipping = true; failed = false }

pub record Landed (m : List Slot) (p : Spot) (height depth height' depth' : ℕ) : Type 0 where
  pub lower : height' ≤ height
  pub fewer : depth' ≤ depth
  pub lands : spot m height' depth' ≡ p

-- the two topmost of the values vs, 0 where there is none
pub record Topmost (vs : List Value) (q : Tops) : Type 0 where
  pub count : q.count ≡ length (take 2 vs)
  pub first : value_in q.first ≡ get_or vs 0 state.zero
  pub second : value_in q.second ≡ get_or vs 1 state.zero
