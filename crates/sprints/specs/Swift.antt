-- Steps as the code takes them: one literal, answering the new height of the stack, or more than the stack can hold, when nothing was done;
-- one literal of any kind; and several in a row. Assumes nothing.
use Rattle.std.specs.Prelude.{Ok, Some, None, IfSome, IfNone}
use Rattle.std.specs.Prelude.{ℕ, ◌+◌, ◌-◌, ◌≤◌, ◌<◌, ◌≡◌, true, false, not, ◌&&◌, List, [], ◌∷◌, length}
use Rattle.std.proofs.Math.Option.{Option, none, some}
use Rattle.table.specs.Slots.{slots}
use Rattle.machine.specs.Limits.{most_entries}
use Rattle.tokens.specs.declared.Read.TheVariants as read
use Rattle.tokens.specs.Token.{token_at}
use Rattle.machine.specs.State.{Context, State, running}
use Rattle.machine.specs.Skeleton.{solid}
use Rattle.machine.specs.Literal.{Code, bytes_of, found_at}
use Rattle.machine.specs.Contexts.{beneath, fault, settle}
use Rattle.machine.specs.Step.{execute, is_unmark0, due_in, step, run}
use Rattle.machine.specs.Readable.{NoComment, Readable}
use Rattle.passing.specs.Known.{Reads}
use Rattle.literals.specs.Dues.{LiteralThere}
use Rattle.sprints.specs.declared.Stride.{Stride}
use Rattle.sprints.specs.declared.Reach.{Reach}
use Rattle.state.specs.declared.Registers.{Registers}
use Rattle.state.specs.Layout.{stack_of, contexts_of, aside, abs, lent, Good, Busy, Perhaps, Tried}

-- ---- bytes that have been judged

-- a token: a literal, unless it is a comment
abbrev pub TokenThere : List ℕ → ℕ → Type 0
TokenThere b at = Reads (token_at b at) × (NoComment (token_at b at) → LiteralThere b at)

-- literals from `at` on, up to the end of their body, which is not there yet
abbrev pub LiteralsLeft : List ℕ → ℕ → ℕ → Type 0
LiteralsLeft b at end = (at < end) × Readable b (solid b at) end

-- ---- one literal

-- heights that the stack cannot have: nothing was done, and nothing is said of the literal; nothing was done, since it fails
abbrev pub undone_height : ℕ
undone_height = 129

abbrev pub failed_height : ℕ
failed_height = 130

-- where marks can stand: so many entries from the bottom on
abbrev pub marked : List ℕ → ℕ → ℕ
marked w height = length (beneath (stack_of (slots w) height))

-- the height that an operation's answer tells
abbrev pub height_in : Perhaps → ℕ
height_in (Some p) = p.height
height_in None = failed_height

-- the registers r with another height
abbrev pub lifted : Registers → ℕ → Registers
lifted r h = record { height = h; depth = r.depth; used = r.used; steps = r.steps; errors = r.errors; skipping = r.skipping }

-- registers within a row of literals
abbrev pub quiet : ℕ → ℕ → ℕ → ℕ → ℕ → Registers
quiet height depth used steps errors = record { height = height; depth = depth; used = used; steps = steps; errors = errors; skipping = false }

-- the origin of the running body, where there are so many contexts
abbrev pub origin : List ℕ → ℕ → ℕ
origin w depth = (running (contexts_of (slots w) depth)).origin

-- where that body ends
abbrev pub ending : List ℕ → ℕ → ℕ
ending w depth = (running (contexts_of (slots w) depth)).end

-- no mark stands at the height `top` or above, the same body runs up to the same end, and the frame kept aside is as it was
pub record Stays (top : ℕ) (w : List ℕ) (r : Registers) (w' : List ℕ) (h : ℕ) : Type 0 where
  pub low : h ≤ most_entries → marked w' h ≤ top
  pub here : h ≤ most_entries → origin w' r.depth ≡ origin w r.depth
  pub ends : h ≤ most_entries → ending w' r.depth ≡ ending w r.depth
  pub keeps : h ≤ most_entries → aside w' ≡ aside w

-- the contexts cs, but that the running one goes on at p
unfoldable pub moved_to : ℕ → List Context → List Context
moved_to p [] = []
moved_to p (c ∷ cs) = record { id = c.id; origin = c.origin; at = p; end = c.end; owes = c.owes; frame = c.frame } ∷ cs

-- the state s, but that the running body goes on at p, and n steps are counted: what a row of literals has not yet put into the table
abbrev pub ahead : ℕ → ℕ → State → State
ahead p n s = record { stack = s.stack; contexts = moved_to p s.contexts; frame = s.frame; cells = s.cells; skipping = s.skipping; steps = n; errors = s.errors }

unfoldable pub onto : ℕ → ℕ → Option State → Option State
onto p n none = none
onto p n (some s) = some (ahead p n s)

-- what means f done within a step: it leaves the stack h high, whatever the place and the steps, or tells that it fails
pub record Flat (top : ℕ) (f : State → Option State) (w : List ℕ) (r : Registers) (w' : List ℕ) (h : ℕ) : Type 0 where
  pub made : h ≤ most_entries → Tried f w r w' (Some (lifted r h))
  pub stays : Stays top w r w' h
  pub back : most_entries < h → w' ≡ w
  pub free : h ≤ most_entries → (p n : ℕ) → f (ahead p n (abs w r)) ≡ onto p n (f (abs w r))
  pub fails : h ≡ failed_height → (p n : ℕ) → f (ahead p n (abs w r)) ≡ none

-- the registers after a step that leaves the stack so high
abbrev pub stepped : Registers → ℕ → Registers
stepped r h = record { height = h; depth = r.depth; used = r.used; steps = r.steps + 1; errors = r.errors; skipping = r.skipping }

-- the literal that is due is not passed over
abbrev pub Executes : Code → State → Type 0
Executes code s = s.skipping && not (is_unmark0 (due_in code s).literal) ≡ false

-- the running body, whose bytes are b, goes on at `at`, with a literal that is not passed over
pub record Ready (code : Code) (b : List ℕ) (at : ℕ) (w : List ℕ) (r : Registers) : Type 0 where
  pub good : Good w r
  pub runs : 0 < r.depth
  pub executes : Executes code (abs w r)
  pub few : r.steps < 4294967295
  pub bytes : b ≡ bytes_of code (origin w r.depth)
  pub place : at ≡ (running (contexts_of (slots w) r.depth)).at

-- a literal tried within a step, and executed or not. Where it was not, the registers are as before, but for the step (`good`)
pub record Attempted (code : Code) (w : List ℕ) (r : Registers) (w' : List ℕ) (q : Perhaps) : Type 0 where
  pub busy : IfSome q (Busy w')
  pub counted : IfSome q (λ r'. r'.steps ≡ r.steps + 1)
  pub keeps : aside w' ≡ aside w
  pub does : IfSome q (λ r'. settle (abs w' r') ≡ step code (abs w r))
  pub fails : IfNone q (fault (abs w' (stepped r r.height)) ≡ step code (abs w r))
  pub good : IfNone q (Good w' (stepped r r.height))

-- ---- several

-- the literal at `at` of the bytes b done, but for its place and its step, or told to fail; of one that was left undone nothing is said.
-- `number`: the operator there, unless it is 0
pub record Strides (top : ℕ) (b : List ℕ) (at : ℕ) (w : List ℕ) (r : Registers) (w' : List ℕ) (t : Stride) : Type 0 where
  pub stays : Stays top w r w' t.height
  pub back : most_entries < t.height → w' ≡ w
  pub token : (t.height ≡ undone_height → ⊥) → NoComment (token_at b at)
  pub next : (t.height ≡ undone_height → ⊥) → (found_at b at).next ≡ solid b t.next
  pub inside : (t.height ≡ undone_height → ⊥) → t.next ≤ length b
  pub told : (t.number ≡ 0 → ⊥) → token_at b at ≡ Ok (read.Operator t.number t.next)
  pub does : (t.height ≡ undone_height → ⊥) → (code : Code) → Flat top (execute code (found_at b at).literal) w r w' t.height

-- a row of literals from `at` on, at most so many, after n steps: where it has come to, but for the place, the steps and the end of bodies
-- (`does`); where it tells of the literal there that it is an operator (`here`) or fails (`falls`), no body has ended. The frames in progress
-- still lie where no store and no charge falls on them (`frames`)
pub record Rowed (code : Code) (b : List ℕ) (at n most : ℕ) (w : List ℕ) (r : Registers) (w' : List ℕ) (t : Reach) : Type 0 where
  pub fits : t.height ≤ most_entries
  pub keeps : aside w' ≡ aside w
  pub long : length w' ≡ length w
  pub frames : lent (slots w') r.depth ≤ r.used
  pub stays : origin w' r.depth ≡ origin w r.depth
  pub ends : ending w' r.depth ≡ ending w r.depth
  pub idle : t.left ≡ most → (w' ≡ w) × (t.height ≡ r.height)
  pub here : (t.number ≡ 0 → ⊥) → run (most - t.left) code (ahead at n (abs w r)) ≡ ahead t.at (n + (most - t.left)) (abs w' (lifted r t.height))
  pub falls : t.failed ≡ true → (run (most - t.left) code (ahead at n (abs w r)) ≡ ahead t.at (n + (most - t.left)) (abs w' (lifted r t.height))) × ((p k : ℕ) → execute code (found_at b t.at).literal (ahead p k (abs w' (lifted r t.height))) ≡ none)
  pub does : t.left < most → run (most - t.left) code (ahead at n (abs w r)) ≡ settle (ahead (solid b t.at) (n + (most - t.left)) (abs w' (lifted r t.height)))
