-- An operator executed, in the words of the table: the values that it reads, and its effect done. In order: values; without a body; with one.
-- Assumes nothing.
use Rattle.std.specs.Prelude.{Option, None}
use Prim.Native.Nat.{ℕ, ◌-◌, ◌≤◌, ◌<◌}
use native.Mathlib.Nat.{mod-lt}
use native.Mathlib.Omega.{arith}
use mathlib.Core.Path.{◌≡◌, refl, sym, ◌∙◌}
use mathlib.Core.Bool.{Bool, true, false, cond}
use mathlib.Core.List.{List}
use borrow.Author.Tests.{le-leb, lt-leb}
use mir.Syntax.{w32}
use mir.Val.{to_z}
use lib.Dec.{eqb}
use lib.ListN.{length}
use Rattle.table.specs.declared.Slot.{Slot}
use Rattle.table.specs.Slots.{slots}
use Rattle.machine.specs.declared.Value.{Value}
use Rattle.machine.specs.declared.Value.TheVariants.{Number, Identifier, Vector, Operator}
use Rattle.machine.specs.declared.Op.{Op}
use Rattle.machine.specs.declared.BodyOp.{BodyOp}
use Rattle.machine.specs.declared.Literal.{Literal}
use Rattle.machine.specs.declared.Literal.TheVariants.{Plain, WithBody}
use Rattle.machine.specs.declared.Effect.{Effect}
use Rattle.machine.specs.Literal.{Code}
use Rattle.machine.specs.Operators.{op_of, body_op_of, arity_of, effect_of, popped, performed}
use Rattle.machine.specs.Ops.Control.{body_arity, body_effect}
use Rattle.machine.specs.Contexts.{above}
use Rattle.machine.specs.Engine.{provided, affected}
use Rattle.machine.specs.Step.{effect_at, execute}
use Rattle.operands.specs.Sizes.{Small}
use Rattle.state.specs.declared.Registers.{Registers}
use Rattle.state.specs.declared.Tops.{Tops}
use Rattle.state.specs.Layout.{half, value_in, stack_of, abs, Busy, Perhaps, Tried, Topmost}
use Rattle.state.proofs.Parts.{length_stack}
use Rattle.state.proofs.Trying.{trying, tried_no, tried_from, pops_is}
use Rattle.state.proofs.Stacking.{above_few, fewer, enough_there}
use Rattle.effects.proofs.Acting.{is_fail}

-- ---- the values that an operator reads

small : (v : Slot) (t : Bool) (u : Bool) (s : Bool) → Small (cond t (Identifier v.a v.b v.c) (cond u (Vector (half v.a) (half v.b) (half v.c)) (cond s (Operator v.a v.b v.c v.d) (Number (record { num = to_z w32 v.a; den = v.b })))))
small v true u s = tt
small v false true s = (mod-lt v.a (omega arith), mod-lt v.b (omega arith), mod-lt v.c (omega arith))
small v false false true = tt
small v false false false = tt

pub small_value : (x : Value) (v : Slot) → x ≡ value_in v → Small x
unfolding value_in
small_value x v e = rw e (small v (eqb v.kind 2) (eqb v.kind 3) (eqb v.kind 4))

module _ {w : List ℕ} {r : Registers} (code : Code) (x : Literal) (a : ℕ) (t : Tops) (g : Busy w r) (two : a ≤ 2) (ea : a ≡ popped x) (et : Topmost (above (stack_of (slots w) r.height)) t) where
  exec_few : {r' : Perhaps} → t.count < a → r' ≡ None → Tried (execute code x) w r w r'
  unfolding execute provided
  exec_few {r'} h q =
      let c = et.count in
      tried_no (rw (← ea, lt-leb a (length (above (stack_of (slots w) r.height))) (fewer (above (stack_of (slots w) r.height)) a two (omega arith)))) q

  exec_done : {w' : List ℕ} {q : Registers} {r' : Perhaps} (e : Option Effect) → a ≤ t.count → e ≡ effect_at x (abs w r) → q ≡ trying r (r.height - a) r.depth r.used → Tried (affected code e) w q w' r' → Tried (execute code x) w r w' r'
  unfolding execute provided
  exec_done {w'} {q} {r'} e h i eq d =
      let c = et.count in
      let k = length (above (stack_of (slots w) r.height)) in
      let l : a ≤ k = enough_there (above (stack_of (slots w) r.height)) a (omega arith) in
      let z : k ≤ r.height = omega (arith, above_few (stack_of (slots w) r.height), length_stack (slots w) r.height) in
      tried_from (rw (← ea, le-leb a k l, ← i, eq, pops_is w r a k l z refl)) (rw eq) d

-- values popped
pub busy_lower : {w : List ℕ} {r q : Registers} (a : ℕ) → Busy w r → q ≡ trying r (r.height - a) r.depth r.used → Busy w q
busy_lower a g e = rw e (omega arith)

-- ---- an operator without a body

module _ {w : List ℕ} {r : Registers} (code : Code) (n a : ℕ) (o : Op) (t : Tops) (g : Busy w r) (eo : o ≡ op_of n) (ea : (a ≡ arity_of o) × (a ≤ 2)) (et : Topmost (above (stack_of (slots w) r.height)) t) where
  pops_plain : a ≡ popped (Plain n)
  unfolding popped
  pops_plain = rw (← eo) ea.0

  pub plain_few : {r' : Perhaps} → t.count < a → r' ≡ None → Tried (execute code (Plain n)) w r w r'
  plain_few {r'} h q = exec_few code (Plain n) a t g ea.1 pops_plain et h q

  module _ (x y : Value) (e : Option Effect) (h : a ≤ t.count) (ex : x ≡ value_in t.first) (ey : y ≡ value_in t.second) (ee : e ≡ effect_of o x y) where
    pub plain_effect : e ≡ effect_at (Plain n) (abs w r)
    unfolding effect_at performed
    plain_effect = ee ∙ (rw (← eo, ← et.first, ← et.second, ex, ey))

    module _ {w' : List ℕ} {q : Registers} {r' : Perhaps} (eq : q ≡ trying r (r.height - a) r.depth r.used) (d : Tried (affected code e) w q w' r') where
      pub plain_done : Tried (execute code (Plain n)) w r w' r'
      plain_done = exec_done code (Plain n) a t g ea.1 pops_plain et e h plain_effect eq d

  pub plain_fails : {r' : Perhaps} (x y : Value) → a ≤ t.count → x ≡ value_in t.first → y ≡ value_in t.second → None ≡ effect_of o x y → r' ≡ None → Tried (execute code (Plain n)) w r w r'
  plain_fails {r'} x y h ex ey ee q =
      let p = trying r (r.height - a) r.depth r.used in
      let u = exec_done code (Plain n) a t g ea.1 pops_plain et None h (plain_effect x y None h ex ey ee) refl (is_fail code None (busy_lower a g refl) refl refl) in
      tried_no {f = execute code (Plain n)} (sym u.does) q

-- ---- an operator with its body

module _ {w : List ℕ} {r : Registers} (code : Code) (n start len a : ℕ) (o : BodyOp) (t : Tops) (g : Busy w r) (eo : o ≡ body_op_of n) (ea : (a ≡ body_arity o) × (a ≤ 2)) (et : Topmost (above (stack_of (slots w) r.height)) t) where
  pops_holder : a ≡ popped (WithBody n start len)
  unfolding popped
  pops_holder = rw (← eo) ea.0

  pub holder_few : {r' : Perhaps} → t.count < a → r' ≡ None → Tried (execute code (WithBody n start len)) w r w r'
  holder_few {r'} h q = exec_few code (WithBody n start len) a t g ea.1 pops_holder et h q

  pub holder_done : {w' : List ℕ} {q : Registers} {r' : Perhaps} (x : Value) (e : Option Effect) → a ≤ t.count → x ≡ value_in t.first → e ≡ body_effect o start len x → q ≡ trying r (r.height - a) r.depth r.used
      → Tried (affected code e) w q w' r' → Tried (execute code (WithBody n start len)) w r w' r'
  unfolding effect_at performed
  holder_done {w'} {q} {r'} x e h ex ee eq d = exec_done code (WithBody n start len) a t g ea.1 pops_holder et e h (ee ∙ (rw (← eo, ← et.first, ex))) eq d
