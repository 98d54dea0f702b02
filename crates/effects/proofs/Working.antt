-- The engine's part of an operator where it needs bytes, in the words of the table. Assumes nothing.
use Rattle.std.specs.Prelude.{Option, Some, None, is_some}
use Prim.Native.Nat.{ℕ, ◌+◌, ◌<◌, ◌≤◌}
use native.Mathlib.Omega.{arith}
use mathlib.Core.Path.{◌≡◌, sym, ap, ◌∙◌}
use mathlib.Core.Bool.{Bool, true, false, ◌&&◌}
use mathlib.Core.List.{List}
use borrow.Author.Tests.{le-leb, lt-leb, leb-true}
use lib.Dec.{leb}
use lib.ListN.{length}
use Rattle.numbers.proofs.Cond.{both}
use Rattle.table.specs.Slots.{slots}
use Rattle.machine.specs.State.{running}
use Rattle.machine.specs.Skeleton.{solid}
use Rattle.machine.specs.Literal.{bytes_of, Code}
use Rattle.machine.specs.Engine.{provided, spell, context_of, inline, kept, call}
use Rattle.state.specs.declared.Registers.{Registers}
use Rattle.state.specs.Layout.{contexts_of, abs, Busy, Perhaps, Tried}
use Rattle.state.specs.Operations as table
use Rattle.effects.specs.declared.Callee.{Callee}
use Rattle.effects.specs.Calls.{Enters}
use Rattle.state.proofs.Parts.{length_values}
use Rattle.state.proofs.Ending.{not_on}
use Rattle.state.proofs.Trying.{tried_no, tried_as}

-- a place in a word, past comments
pub placed_at : (b : List ℕ) (start s q at : ℕ) → s ≡ start → q ≡ solid b s → at ≡ q → at ≡ solid b start
placed_at b start s q at es eq ea = ea ∙ (eq ∙ ap (solid b) es)

-- the running body's bytes are b
module _ {w w' : List ℕ} {r : Registers} {r' : Perhaps} (code : Code) (b : List ℕ) (start o : ℕ) (eo : o ≡ (running (contexts_of (slots w) r.depth)).origin) (eb : b ≡ bytes_of code o) where
  pub spell_as : Tried (table.spell b start) w r w' r' → Tried (spell code start) w r w' r'
  unfolding spell table.spell
  spell_as t = tried_as (rw (← eo, ← eb)) t

  pub inline_as : (len at : ℕ) (owes : Bool) → at ≡ solid b start → Tried (table.inline at (start + len) owes) w r w' r' → Tried (inline code start len owes) w r w' r'
  unfolding inline context_of table.inline
  inline_as len at owes ea t = tried_as (rw (← eo, ← eb, ← ea)) t

-- an operator's body, and the frame that it keeps
module _ (code : Code) (used origin start len first : ℕ) (k : Option Callee) where
  no_frame : used < first + 50 → leb (first + 50) used && leb (start + len) (length (bytes_of code origin)) ≡ false
  no_frame h = rw (lt-leb (first + 50) used h)

  no_body : first + 50 ≤ used → length (bytes_of code origin) < start + len → leb (first + 50) used && leb (start + len) (length (bytes_of code origin)) ≡ false
  no_body h l = rw (le-leb (first + 50) used h, lt-leb (start + len) (length (bytes_of code origin)) l)

  none_there : k ≡ None → leb (first + 50) used && leb (start + len) (length (bytes_of code origin)) ≡ false → Enters code used origin start len first k
  none_there e h = record { there = ap is_some e ∙ sym h; at = λ c t. not_on (ap is_some (sym e ∙ t)); end = λ c t. not_on (ap is_some (sym e ∙ t)) }

  pub enters_frameless : (f : ℕ) → f ≡ first → used < f + 50 → k ≡ None → Enters code used origin start len first k
  enters_frameless f ef h e = none_there e (no_frame (omega arith))

  module _ (b : List ℕ) (f s l : ℕ) (ef : f ≡ first) (enough : f + 50 ≤ used) (es : s ≡ start) (el : l ≡ len) (eb : b ≡ bytes_of code origin) where
    pub enters_outside : length b < s + l → k ≡ None → Enters code used origin start len first k
    enters_outside h e = none_there e (no_body (omega arith) (rw (← eb) (omega arith)))

    pub enters_there : s + l ≤ length b → (c : Callee) → k ≡ Some c → c.at ≡ solid b start → c.end ≡ s + l → Enters code used origin start len first k
    enters_there h c t ea ee =
        let i : start + len ≤ length (bytes_of code origin) = rw (← eb) (omega arith) in
        record {
          there = ap is_some t ∙ (rw (le-leb (first + 50) used (omega arith), le-leb (start + len) (length (bytes_of code origin)) i));
          at = λ d u. let same : c ≡ d = cc in rw (← same, ← eb) ea;
          end = λ d u. let same : c ≡ d = cc in rw (← same) (omega arith);
        }

  -- both are there
  module _ (h : Enters code used origin start len first k) (c : Callee) (t : k ≡ Some c) where
    both_there : leb (first + 50) used && leb (start + len) (length (bytes_of code origin)) ≡ true
    both_there = sym h.there ∙ ap is_some t

    pub frame_there : first + 50 ≤ used
    frame_there = leb-true (first + 50) used (both (leb (first + 50) used) (leb (start + len) (length (bytes_of code origin))) both_there).0

module _ {w : List ℕ} {r : Registers} (code : Code) (origin start len first : ℕ) (g : Busy w r) {k : Option Callee} (h : Enters code r.used origin start len first k) where
  kept_is : kept code origin start len first (abs w r).cells ≡ is_some k
  unfolding kept
  kept_is = (rw length_values) ∙ sym h.there

  pub call_none : {r' : Perhaps} → k ≡ None → r' ≡ None → Tried (call code origin start len first) w r w r'
  unfolding call provided
  call_none {r'} t q = tried_no (rw (kept_is, t)) q

  pub call_made : {w' : List ℕ} {r' : Perhaps} (f : ℕ) (c : Callee) → k ≡ Some c → f ≡ first → Tried (table.call origin c.at c.end f) w r w' r' → Tried (call code origin start len first) w r w' r'
  unfolding call provided context_of table.call
  call_made {w'} {r'} f c t ef d = tried_as (rw (kept_is, t, ← (h.at c t), ← (h.end c t), ← ef)) d
