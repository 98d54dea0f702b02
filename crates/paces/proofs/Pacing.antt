-- A literal executed, and a step with it, in the words of the table. In order: a literal by its kind; the same registers; the literal that is
-- due; a step. Assumes nothing.
use Rattle.std.specs.Prelude.{Some, None}
use Prim.Native.Nat.{ℕ, ◌+◌, ◌≤◌, ◌<◌}
use native.Mathlib.Omega.{arith}
use mathlib.Core.Path.{◌≡◌, ◌∙◌, ap}
use mathlib.Core.List.{List}
use borrow.Author.Tests.{le-leb}
use lib.ListN.{length}
use Rattle.table.specs.Slots.{slots}
use Rattle.machine.specs.declared.Literal.{Literal}
use Rattle.machine.specs.declared.Literal.TheVariants.{Figure, Name, Text, Plain, WithBody}
use Rattle.machine.specs.State.{State, running}
use Rattle.machine.specs.Literal.{Code, bytes_of, found_at}
use Rattle.machine.specs.Operators.{popped, performed}
use Rattle.machine.specs.Contexts.{above, fault, settle}
use Rattle.machine.specs.Engine.{provided, pops, spell, worked, does, affected}
use Rattle.machine.specs.Step.{effect_at, execute}
use Rattle.machine.proofs.Inside.{HeldIn, found_inside}
use Rattle.literals.specs.declared.Due.{Due}
use Rattle.literals.specs.Dues.{Is, LiteralThere}
use Rattle.names.specs.Names.{both}
use Rattle.state.specs.declared.Place.{Place}
use Rattle.state.specs.declared.Registers.{Registers}
use Rattle.state.specs.Layout.{stack_of, contexts_of, abs, Done, Perhaps, Tried, Good}
use Rattle.state.proofs.Cutting.{over_above}
use Rattle.state.proofs.Trying.{tried_as}
use Rattle.machine.proofs.Legible.{Legible, going_on, going_literal}
use Rattle.origins.specs.Bodies.{Short}
use Rattle.sprints.specs.Swift.{stepped, Executes, Ready, Attempted}
use Rattle.origins.proofs.ByOrigin.{bytes_short}
use Rattle.sprints.proofs.Swiftly.{not_ended, settles}
use Rattle.paces.specs.Paces.{SizedLiteral, Stepped}

-- ---- a literal, by its kind

module _ {w w' : List ℕ} {r : Registers} {r' : Perhaps} (code : Code) (x : Literal) where
  pub by_text : (s n : ℕ) → x ≡ Text s → n ≡ s → Tried (spell code n) w r w' r' → Tried (execute code x) w r w' r'
  unfolding execute provided popped effect_at performed affected does worked pops
  by_text s n e f t = rw (e, ← f) (tried_as (rw (le-leb 0 (length (above (stack_of (slots w) r.height))) (omega arith), over_above (stack_of (slots w) r.height))) t)

  pub by_plain : (n : ℕ) → x ≡ Plain n → Tried (execute code (Plain n)) w r w' r' → Tried (execute code x) w r w' r'
  by_plain n e t = rw e t

  pub by_holder : (n s l : ℕ) → x ≡ WithBody n s l → Tried (execute code (WithBody n s l)) w r w' r' → Tried (execute code x) w r w' r'
  by_holder n s l e t = rw e t

pub sized_holder : (x : Literal) (n s l : ℕ) → SizedLiteral x → x ≡ WithBody n s l → s + l < 4294967296
sized_holder x n s l h e = rw e at h

-- ---- the same registers

pub done_same : {f : State → State} {w w' : List ℕ} {r q q₁ : Registers} → q ≡ q₁ → Done f w r w' q₁ → Done f w r w' q
done_same i d = rw i d

pub stepped_same : {pre body w w' : List ℕ} {r r₁ q q₁ : Registers} → r₁ ≡ r → q ≡ q₁ → Stepped pre body w r₁ w' q₁ → Stepped pre body w r w' q
stepped_same e i t = rw (← e, i) t

-- ---- the literal that is due

pub bytes_fit : (pre body b : List ℕ) {at : ℕ} {w : List ℕ} {r : Registers} → Ready (both pre body) b at w r → Short pre body → length b ≤ 16777215
bytes_fit pre body b {at} {w} {r} ready short = rw ready.bytes (bytes_short pre body (running (contexts_of (slots w) r.depth)).origin short)

-- the literal that is due stands where the running body goes on
pub stands_now : (w : List ℕ) (r : Registers) (pre body b : List ℕ) (c : Place) (at : ℕ) → Legible (both pre body) (abs w r) → 0 < r.depth
    → (c.origin ≡ (running (contexts_of (slots w) r.depth)).origin) × (c.start ≡ (running (contexts_of (slots w) r.depth)).at) → b ≡ bytes_of (both pre body) c.origin → at ≡ c.start → LiteralThere b at
stands_now w r pre body b c at h runs here eb ea =
    rw (eb, here.0, ea, here.1) (going_literal (going_on (both pre body) (abs w r) h (not_ended (slots w) r.depth runs)))

-- the literal that is due holds a body whose end is a word
pub sized_due : (b : List ℕ) (at : ℕ) (d : Due) → length b ≤ 16777215 → Is (found_at b at) d → SizedLiteral d.literal
sized_due b at d h i = rw i.literal (sized (found_at b at).literal (length b) (omega arith) (found_inside b at))
  where
    sized : (x : Literal) (n : ℕ) → n < 4294967296 → HeldIn n x → SizedLiteral x
    sized (Figure a) n l k = tt
    sized (Name s m) n l k = tt
    sized (Text s) n l k = tt
    sized (Plain m) n l k = tt
    sized (WithBody m s z) n l k = omega arith

-- ---- a step

-- one more counted, on as high a stack
pub counted_there : (r : Registers) (h : ℕ) {s : Registers} → s ≡ stepped r h → h ≡ r.height → s ≡ stepped r r.height
counted_there r h e i = e ∙ ap (stepped r) i

-- what a step with it asks for
pub ready_now : {w : List ℕ} {r : Registers} (pre body b : List ℕ) (c : Place) (at : ℕ) → Good w r → 0 < r.depth → Executes (both pre body) (abs w r) → r.steps < 4294967295
    → (c.origin ≡ (running (contexts_of (slots w) r.depth)).origin) × (c.start ≡ (running (contexts_of (slots w) r.depth)).at) → b ≡ bytes_of (both pre body) c.origin → at ≡ c.start → Ready (both pre body) b at w r
ready_now pre body b c at g runs x few here eb ea =
    record { good = g; runs = runs; executes = x; few = few; bytes = rw (← here.0) eb; place = ea ∙ here.1 }

module _ {w w₁ : List ℕ} {r : Registers} {q : Perhaps} (pre body : List ℕ) (t : Attempted (both pre body) w r w₁ q) where
  pub pace_settles : {w' : List ℕ} {r' p : Registers} → q ≡ Some p → Done settle w₁ p w' r' → Stepped pre body w r w' r'
  pace_settles {p} e d =
      let u : Attempted (both pre body) w r w₁ (Some p) = rw e at t in
      record { good = d.good; does = d.does ∙ u.does; keeps = d.keeps ∙ t.keeps; counted = d.counted ∙ u.counted }

  pub pace_may_settle : {p : Registers} → q ≡ Some p → Good w₁ p × (p.errors < p.steps)
  pace_may_settle {p = p} e = let u : Attempted (both pre body) w r w₁ (Some p) = rw e at t in settles u.busy

  none_done : q ≡ None → Attempted (both pre body) w r w₁ None
  none_done e = rw e at t

  -- one that has failed may recover
  pub pace_recovers : {s : Registers} → Good w r → q ≡ None → s ≡ stepped r r.height → Good w₁ s × (s.errors < s.steps)
  pace_recovers g e i = rw i ((none_done e).good, omega (arith, g.errors_fit))

  pub pace_faults : {w' : List ℕ} {r' s : Registers} → q ≡ None → s ≡ stepped r r.height → Done fault w₁ s w' r' → Stepped pre body w r w' r'
  pace_faults e i d =
      let f = rw i at d in
      record { good = f.good; does = f.does ∙ (none_done e).fails; keeps = f.keeps ∙ t.keeps; counted = f.counted }
