-- The engine's part of each operator, from State to a State or to a failure. A literal that fails changes nothing but by recovery (R14):
-- every limit is tested in one place, on the result. In order: the limits; the values above the topmost mark; cells; frames; marks;
-- bodies entered. Assumes nothing.
use Rattle.std.specs.Prelude.{ℕ, ◌+◌, ◌-◌, Bool, true, false, cond, ◌&&◌, List, [], ◌∷◌, ◌++◌, reverse, eqb, leb, length, take, drop, set, get_or, is_some, Option as Maybe, Some, None}
use Rattle.std.proofs.Math.Option.{Option, none, some}
use Rattle.machine.specs.declared.Value.{Value}
use Rattle.machine.specs.declared.Value.TheVariants.{Number, Identifier, Vector, Operator}
use Rattle.machine.specs.declared.Work.{Work}
use Rattle.machine.specs.declared.Work.TheVariants.{Nothing, Fetch, Element, Build, Spell, Utter, Compose, Repeat, Turn, Match, Report}
use Rattle.machine.specs.declared.Next.{Next}
use Rattle.machine.specs.declared.Next.TheVariants.{Works, Inline, Call, Store, Place, Remove, Tally}
use Rattle.machine.specs.declared.Effect.{Effect}
use Rattle.machine.specs.declared.Effect.TheVariants.{Gives, Gives2, Acts}
use Rattle.machine.specs.Limits.{frame_size, most_entries, most_contexts, most_cells}
use Rattle.machine.specs.State.{Entry, val, mark, Context, State, zero, running}
use Rattle.machine.specs.Skeleton.{solid}
use Rattle.machine.specs.Literal.{Code, bytes_of, letters_at, text_of, same_bytes}
use Rattle.machine.specs.Operand.{cardinal?, natural}
use Rattle.machine.specs.Contexts.{above, beneath, over}

-- ---- the limits

unfoldable pub fits : State → Bool
fits s = leb (length s.stack) most_entries && (leb (length s.contexts) most_contexts && leb (length s.cells) most_cells)

-- "Going beyond is a master error"
unfoldable pub limited : State → Option State
limited s = cond (fits s) (some s) none

unfoldable pub provided : Bool → Option State → Option State
provided true o = o
provided false o = none

-- ---- parts of a state anew

abbrev pub with_stack : List Entry → State → State
with_stack l s = record { stack = l; contexts = s.contexts; frame = s.frame; cells = s.cells; skipping = s.skipping; steps = s.steps; errors = s.errors }

abbrev pub with_contexts : List Context → State → State
with_contexts l s = record { stack = s.stack; contexts = l; frame = s.frame; cells = s.cells; skipping = s.skipping; steps = s.steps; errors = s.errors }

abbrev pub with_frame : List Value → Context → Context
with_frame f c = record { id = c.id; origin = c.origin; at = c.at; end = c.end; owes = c.owes; frame = f }

-- ---- the values above the topmost mark

abbrev pub values : State → List Value
values s = above s.stack

-- other values above the topmost mark, and other cells
abbrev pub with_values : List Value → List Value → State → State
with_values vs cells s = record {
  stack = over vs (beneath s.stack);
  contexts = s.contexts;
  frame = s.frame;
  cells = cells;
  skipping = s.skipping;
  steps = s.steps;
  errors = s.errors;
}

unfoldable pub pops : ℕ → State → State
pops n s = with_values (drop n (values s)) s.cells s

unfoldable pub push : Value → State → Option State
push v s = limited (with_stack (val v ∷ s.stack) s)

-- the values of a message are all Cardinals (R17)
unfoldable pub is_cardinal : Value → Bool
is_cardinal v = is_some (cardinal? v)

unfoldable pub all_cardinals : List Value → Bool
all_cardinals [] = true
all_cardinals (v ∷ vs) = is_cardinal v && all_cardinals vs

unfoldable pub elements_of : Value → List Value → List Value
elements_of (Number a) cells = []
elements_of (Identifier origin start len) cells = []
elements_of (Vector first lower count) cells = take count (drop first cells)
elements_of (Operator origin start len first) cells = []

-- 1 or 0
unfoldable pub bit : Bool → Value
bit b = Number (cond b (natural 1) (natural 0))

-- so many values are there, and no mark among them
abbrev pub has : ℕ → State → Bool
has n s = leb n (length (values s))

-- new cells, and the value that points to the first of them in the place of n values: "Making a vector or string charges its element count"
unfoldable pub charge : List Value → ℕ → Value → State → Option State
charge new n v s = limited (with_values (v ∷ drop n (values s)) (s.cells ++ new) s)

-- n values, the topmost last, become a vector
unfoldable pub build : ℕ → ℕ → State → Option State
build lower n s = provided (has n s) (charge (reverse (take n (values s))) n (Vector (length s.cells) lower n) s)

-- the string token at a place of the running body becomes a vector with lower bound 0
unfoldable pub spell : Code → ℕ → State → Option State
spell code start s = let l = letters_at (bytes_of code (running s.contexts).origin) start in charge l 0 (Vector (length s.cells) 0 (length l)) s

-- MAKESIMPLECO "keeps such a copy" of the running frame, and "charges 50"
unfoldable pub compose : ℕ → ℕ → State → Option State
compose start len s = let c = running s.contexts in charge c.frame 0 (Operator c.origin start len (length s.cells)) s

-- the topmost n values once more
unfoldable pub repeat : ℕ → State → Option State
repeat n s = provided (has n s) (limited (with_values (take n (values s) ++ values s) s.cells s))

-- of the topmost n values the first m pushed become the topmost
unfoldable pub turn : ℕ → ℕ → State → Option State
turn n m s = let vs = values s in provided (has n s) (limited (with_values (drop (n - m) (take n vs) ++ (take (n - m) vs ++ drop n vs)) s.cells s))

unfoldable pub worked : Code → Work → State → Option State
worked code Nothing s = limited s
worked code (Fetch j) s = push (get_or (running s.contexts).frame j zero) s
worked code (Element cell) s = push (get_or s.cells cell zero) s
worked code (Build lower n) s = build lower n s
worked code (Spell start) s = spell code start s
worked code (Utter start len) s = push (Identifier (running s.contexts).origin start len) s
worked code (Compose start len) s = compose start len s
worked code (Repeat n) s = repeat n s
worked code (Turn n m) s = turn n m s
worked code (Match v w) s = push (bit (same_bytes (text_of code v) (text_of code w))) s
worked code (Report v) s = provided (all_cardinals (elements_of v s.cells)) (limited s)

-- ---- the running frame

-- the engine's body's frame, kept for when its context has been left
unfoldable pub last_frame : List Value → List Context → List Value
last_frame f [] = f
last_frame f (c ∷ cs) = last_frame c.frame cs

unfoldable pub noted : State → State
noted s = record { stack = s.stack; contexts = s.contexts; frame = last_frame s.frame s.contexts; cells = s.cells; skipping = s.skipping; steps = s.steps; errors = s.errors }

unfoldable pub store_in : ℕ → Value → List Context → List Context
store_in j v [] = []
store_in j v (c ∷ cs) = with_frame (set c.frame j v) c ∷ cs

-- the topmost value goes into element j
unfoldable pub store : ℕ → State → Option State
store j s = provided (has 1 s) (limited (noted (with_contexts (store_in j (get_or (values s) 0 zero) s.contexts) (pops 1 s))))

-- ---- marks

-- a mark of the running context under n values
unfoldable pub place : ℕ → State → Option State
place n s =
    let vs = values s in
    provided (has n s) (limited (with_stack (over (take n vs) (mark (running s.contexts).id ∷ over (drop n vs) (beneath s.stack))) s))

unfoldable pub remove_at : ℕ → ℕ → List Value → List Entry → State → Option State
remove_at id n vs [] s = none
remove_at id n vs (val v ∷ t) s = none
remove_at id n vs (mark k ∷ t) s = provided (eqb k id && eqb n (length vs)) (limited (with_stack (over vs t) s))

-- the topmost mark is the running context's own, with exactly n values above it
unfoldable pub remove : ℕ → State → Option State
remove n s = remove_at (running s.contexts).id n (values s) (beneath s.stack) s

unfoldable pub tally_at : ℕ → ℕ → List Entry → State → Option State
tally_at id n [] s = none
tally_at id n (val v ∷ t) s = none
tally_at id n (mark k ∷ t) s = provided (eqb k id) (push (Number (natural n)) s)

-- how many values stand above the running context's own mark
unfoldable pub tally : State → Option State
tally s = tally_at (running s.contexts).id (length (values s)) (beneath s.stack) s

-- ---- bodies entered

-- the identity of a context is the number of the step that enters it
unfoldable pub context_of : Code → ℕ → ℕ → ℕ → Bool → List Value → State → Context
context_of code origin start len owes frame s = record {
  id = s.steps;
  origin = origin;
  at = solid (bytes_of code origin) start;
  end = start + len;
  owes = owes;
  frame = frame;
}

unfoldable pub enter : Context → State → Option State
enter c s = limited (with_contexts (c ∷ s.contexts) s)

-- "A body run by IF, IFELSE or DOSAVESIMPLEBODY has a context of its own, with a copy of the current frame"
unfoldable pub inline : Code → ℕ → ℕ → Bool → State → Option State
inline code start len owes s = let c = running s.contexts in enter (context_of code c.origin start len owes c.frame s) s

-- an operator's kept frame stands in the cells, and its body in the bytes of its origin: so it is of every operator that a run makes
unfoldable pub kept : Code → ℕ → ℕ → ℕ → ℕ → List Value → Bool
kept code origin start len first cells = leb (first + frame_size) (length cells) && leb (start + len) (length (bytes_of code origin))

unfoldable pub call : Code → ℕ → ℕ → ℕ → ℕ → State → Option State
call code origin start len first s =
    provided (kept code origin start len first s.cells)
    (enter (context_of code origin start len false (take frame_size (drop first s.cells)) s) s)

-- ---- an effect, on the state from which the operator's values have been popped

unfoldable pub does : Code → Next → State → Option State
does code (Works w) s = worked code w s
does code (Inline start len owes) s = inline code start len owes s
does code (Call origin start len first) s = call code origin start len first s
does code (Store j) s = store j s
does code (Place n) s = place n s
does code (Remove n) s = remove n s
does code Tally s = tally s

unfoldable pub affected : Code → Maybe Effect → State → Option State
affected code None s = none
affected code (Some (Gives a)) s = push (Number a) s
affected code (Some (Gives2 a b)) s = push (Number b) (with_stack (val (Number a) ∷ s.stack) s)
affected code (Some (Acts x)) s = does code x s
