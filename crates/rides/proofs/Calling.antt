-- DO in the words of the table, and a step with a literal. Assumes nothing.
use Rattle.std.specs.Prelude.{Some, None}
use Prim.Native.Nat.{ℕ, zero, suc, ◌-◌, ◌≤◌, ◌<◌}
use native.Mathlib.Omega.{arith}
use mathlib.Core.Path.{◌≡◌, refl, ap, sym, ◌∙◌}
use mathlib.Core.List.{List, [], ◌∷◌}
use mathlib.Core.Option.{Option, none, some}
use Rattle.table.specs.Slots.{slots}
use Rattle.machine.specs.declared.Value.{Value}
use Rattle.machine.specs.declared.Value.TheVariants.{Operator}
use Rattle.machine.specs.declared.Literal.{Literal}
use Rattle.machine.specs.declared.Literal.TheVariants.{Plain}
use Rattle.machine.specs.declared.Effect.TheVariants.{Acts}
use Rattle.machine.specs.declared.Next.TheVariants.{Call}
use Rattle.machine.specs.declared.Op.TheVariants.{Calls}
use Rattle.machine.specs.declared.CallOp.TheVariants.{Do}
use Rattle.machine.specs.State.{Context, State, running}
use Rattle.machine.specs.Literal.{Code, bytes_of}
use Rattle.machine.specs.Operators.{arity_of, effect_of}
use Rattle.machine.specs.Operand.{as_operator}
use Rattle.machine.specs.Ops.Call.{called, call_effect}
use Rattle.machine.specs.Contexts.{above, fault, settle}
use Rattle.machine.specs.Engine.{call}
use Rattle.machine.specs.Step.{execute, executed, begun_in, begun}
use Rattle.operands.proofs.Reading.{NoOperator, no_operator}
use Rattle.state.specs.declared.Registers.{Registers}
use Rattle.state.specs.declared.Tops.{Tops}
use Rattle.state.specs.Layout.{value_in, stack_of, abs, Good, Busy, Done, Perhaps, Tried, Begun, Topmost}
use Rattle.state.proofs.Trying.{trying}
use Rattle.effects.proofs.Acting.{is_acts, by_call}
use Rattle.effects.proofs.Executing.{plain_few, plain_done, plain_fails}
use Rattle.sprints.specs.Swift.{origin, stepped}
use Rattle.sprints.proofs.Swiftly.{by_number, faults, may_settle}
use Rattle.rides.specs.Rides.{Paced}

-- ---- DO

do_one : (1 ≡ arity_of (Calls Do)) × (1 ≤ 2)
unfolding arity_of
do_one = (refl, omega arith)

calls_nothing : (x y : Value) → NoOperator x → None ≡ effect_of (Calls Do) x y
unfolding effect_of call_effect called
calls_nothing x y h = no_operator x _ h

do_call : (o s l f : ℕ) (x y : Value) → x ≡ Operator o s l f → Some (Acts (Call o s l f)) ≡ effect_of (Calls Do) x y
unfolding effect_of call_effect called as_operator
do_call o s l f x y e = rw e

module _ {w : List ℕ} {r : Registers} (code : Code) (t : Tops) (g : Busy w r) (et : Topmost (above (stack_of (slots w) r.height)) t) where
  pub do_few : {r' : Perhaps} → t.count < 1 → r' ≡ None → Tried (execute code (Plain 231)) w r w r'
  do_few {r'} h q = plain_few code 231 1 (Calls Do) t g by_number.6 do_one et h q

  module _ (h : 1 ≤ t.count) (x : Value) (ex : x ≡ value_in t.first) where
    pub do_made : {w' : List ℕ} {q : Registers} {r' : Perhaps} (o s l f : ℕ) → x ≡ Operator o s l f → q ≡ trying r (r.height - 1) r.depth r.used → Tried (call code o s l f) w q w' r' → Tried (execute code (Plain 231)) w r w' r'
    do_made {w'} {q} {r'} o s l f e eq d =
        plain_done code 231 1 (Calls Do) t g by_number.6 do_one et x (value_in t.second) (Some (Acts (Call o s l f))) h ex refl (do_call o s l f x (value_in t.second) e) eq (is_acts code (Some (Acts (Call o s l f))) (Call o s l f) refl (by_call code (Call o s l f) o s l f refl d))

    pub do_fails : {r' : Perhaps} → NoOperator x → r' ≡ None → Tried (execute code (Plain 231)) w r w r'
    do_fails {r'} bad q =
        plain_fails code 231 1 (Calls Do) t g by_number.6 do_one et x (value_in t.second) h ex refl (calls_nothing x (value_in t.second) bad) q

-- ---- a step

module _ {w w₁ w₂ : List ℕ} {r s : Registers} {q : Perhaps} (code : Code) (x : Literal) (m n : ℕ) (em : n ≡ m) (be : Begun n w r w₁ s) (t : Tried (execute code x) w₁ s w₂ q) where
  began : begun m (abs w r) ≡ abs w₁ s
  began = rw (← em) (sym be.does)

  pub paced_settles : {w' : List ℕ} {r' p : Registers} → q ≡ Some p → Done settle w₂ p w' r' → Paced code x m w r w' r'
  unfolding executed
  paced_settles {p = p} o d =
      let u : Tried (execute code x) w₁ s w₂ (Some p) = rw o at t in
      let e : some (abs w₂ p) ≡ execute code x (abs w₁ s) = u.does in
      record { good = d.good; does = d.does ∙ (rw (began, ← e)); keeps = d.keeps ∙ (t.keeps ∙ be.keeps); counted = d.counted ∙ (u.counted ∙ be.counted) }

  pub paced_faults : {w' : List ℕ} {r' z : Registers} → q ≡ None → z ≡ stepped r r.height → Done fault w₂ z w' r' → Paced code x m w r w' r'
  unfolding executed
  paced_faults o i f =
      let d = rw i at f in
      let u : Tried (execute code x) w₁ s w₂ None = rw o at t in
      let e : none ≡ execute code x (abs w₁ s) = u.does in
      let z : abs w₂ (stepped r r.height) ≡ abs w₁ s = rw (t.back o, be.registers) in
      record { good = d.good; does = d.does ∙ ap fault z ∙ (rw (began, ← e)); keeps = d.keeps ∙ (t.keeps ∙ be.keeps); counted = d.counted }

-- bytes are those of some code
code_of : ℕ → List ℕ → Code
code_of zero b = b ∷ []
code_of (suc n) b = [] ∷ code_of n b

some_code : (n : ℕ) (b : List ℕ) → b ≡ bytes_of (code_of n b) n
unfolding code_of
some_code zero b = refl
some_code (suc n) b = some_code n b

-- a step that has not failed may settle, and one that has may recover
module _ {w w₁ w₂ b : List ℕ} {r s : Registers} {q : Perhaps} (f : Code → State → Option State) (n o : ℕ) (be : Begun n w r w₁ s) (t : (code : Code) → b ≡ bytes_of code o → Tried (f code) w₁ s w₂ q) where
  pub settles_within : {p : Registers} → q ≡ Some p → Good w₂ p × (p.errors < p.steps)
  settles_within e = may_settle (t (code_of o b) (some_code o b)) e

  pub faults_within : {z : Registers} → q ≡ None → z ≡ stepped r r.height → Good w₂ z × (z.errors < z.steps)
  faults_within e i = faults n be (t (code_of o b) (some_code o b)) e i

-- the body in which a step begins has the bytes that it had
begun_by : (n : ℕ) (s : State) (cs : List Context) → s.contexts ≡ cs → (running (begun_in n cs s).contexts).origin ≡ (running cs).origin
unfolding begun_in running
begun_by n s [] e = rw e
begun_by n s (c ∷ cs) e = refl

origin_begun : (n : ℕ) (s : State) → (running (begun n s).contexts).origin ≡ (running s.contexts).origin
unfolding begun
origin_begun n s = begun_by n s s.contexts refl

pub bytes_begun : {w w₁ : List ℕ} {r s : Registers} (code : Code) (b : List ℕ) (n : ℕ) → Begun n w r w₁ s → b ≡ bytes_of code (origin w r.depth) → b ≡ bytes_of code (origin w₁ s.depth)
bytes_begun {w} {w₁} {r} {s} code b n be eb = eb ∙ ap (bytes_of code) (sym (ap (λ (u : State). (running u.contexts).origin) be.does ∙ origin_begun n (abs w r)))

-- a step with a literal that fails
pub paced_fails : {w w₁ w' : List ℕ} {r s r' : Registers} (m n : ℕ) → n ≡ m → Begun n w r w₁ s → Done fault w₁ s w' r' → (code : Code) (x : Literal) → execute code x (begun m (abs w r)) ≡ none → Paced code x m w r w' r'
unfolding executed
paced_fails {w} {w₁} {w'} {r} {s} {r'} m n em be d code x e =
    let z : begun m (abs w r) ≡ abs w₁ s = rw (← em) (sym be.does) in
    record { good = d.good; does = d.does ∙ ap fault (sym z) ∙ (rw e); keeps = d.keeps ∙ be.keeps; counted = d.counted ∙ be.counted }
