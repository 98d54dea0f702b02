-- Literals executed several in a row. In order: a literal by its kind; operators by their number; a step; several. Assumes nothing.
use Rattle.std.specs.Prelude.{Option as Maybe, Some, None, Ok, Err}
use Prim.Native.Nat.{ℕ, suc, ◌+◌, ◌-◌, ◌≤◌, ◌<◌, zero}
use native.Mathlib.Omega.{arith}
use mathlib.Core.Path.{◌≡◌, refl, sym, ap, ◌∙◌}
use mathlib.Core.Bool.{Bool, true, false, cond, not, ◌&&◌, ◌||◌}
use mathlib.Core.Logic.{inl, inr}
use mathlib.Core.List.{List, [], ◌∷◌}
use mathlib.Core.Option.{Option, none, some}
use types.Run.{OneOf}
use borrow.Author.Tests.{le-leb, eqb-true}
use lib.Dec.{eqb}
use lib.IntN.{pos, ◌-ℤ◌}
use lib.ListN.{length, get_or}
use Rattle.numbers.specs.declared.Number as num
use Rattle.numbers.specs.Fraction.{Answer}
use Rattle.numbers.specs.declared.NoNumber.{NoNumber}
use Rattle.numbers.specs.Arith.{sum_of, difference_of, product_of, quotient_of}
use Rattle.table.specs.declared.Slot.{Slot}
use Rattle.table.specs.Slots.{slots}
use Rattle.tokens.specs.declared.Read.TheVariants as read
use Rattle.tokens.specs.Format.{bias}
use Rattle.tokens.specs.declared.Form.{Form}
use Rattle.tokens.specs.declared.Form.TheVariants as form
use Rattle.tokens.specs.Token.{token_at}
use Rattle.tokens.specs.Passing.{Shows}
use Rattle.machine.specs.declared.Value.{Value}
use Rattle.machine.specs.declared.Value.TheVariants.{Number}
use Rattle.machine.specs.declared.Role.TheVariants as role
use Rattle.machine.specs.declared.Literal.{Literal}
use Rattle.machine.specs.declared.Literal.TheVariants.{Figure, Name, Plain}
use Rattle.machine.specs.declared.Effect.{Effect}
use Rattle.machine.specs.declared.Effect.TheVariants.{Gives, Acts}
use Rattle.machine.specs.declared.Next.TheVariants.{Works, Place, Remove, Tally}
use Rattle.machine.specs.declared.Work.TheVariants.{Nothing, Repeat, Turn}
use Rattle.machine.specs.declared.Op.{Op}
use Rattle.machine.specs.declared.Op.TheVariants.{OnVectors, OnFrame, Calls, OnStack, Tests, Reckons, Unknown}
use Rattle.machine.specs.declared.FrameOp.{FrameOp}
use Rattle.machine.specs.declared.FrameOp.TheVariants.{Fget, Fset}
use Rattle.machine.specs.declared.CallOp.TheVariants.{Do}
use Rattle.machine.specs.declared.StackOp.TheVariants.{Pop, Dup, Exch, Mark, Count, Nop}
use Rattle.machine.specs.declared.TestOp.{TestOp}
use Rattle.machine.specs.declared.TestOp.TheVariants.{Eq, Gt, Ge, And, Or}
use Rattle.machine.specs.declared.VectorOp.{VectorOp}
use Rattle.machine.specs.declared.VectorOp.TheVariants.{Get, Shape}
use Rattle.machine.specs.declared.ArithOp.TheVariants.{Add, Sub, Mul, Div}
use Rattle.machine.specs.State.{State}
use Rattle.machine.specs.State as state
use Rattle.machine.specs.Skeleton.{holders, barred, one_of, role_of, solid}
use Rattle.machine.specs.Literal.{Code, Found, found_by, found_at}
use Rattle.machine.specs.Operators.{op_of, op_in, operators, arity_of, effect_of, popped, performed}
use Rattle.machine.specs.Ops.Frame.{frame_arity, frame_effect}
use Rattle.machine.specs.Ops.Stack.{stack_arity, stack_effect}
use Rattle.machine.specs.Operand.{as_number, cardinal?, answered}
use Rattle.machine.specs.Ops.Arith.{arith_arity, of_two, arith_effect}
use Rattle.machine.specs.Ops.Test.{test_arity, test_effect}
use Rattle.machine.specs.Ops.Vector.{vector_arity, vector_effect}
use Rattle.machine.specs.Contexts.{above, fault}
use Rattle.machine.specs.Engine.{provided, pops, repeat, turn, worked, place, remove, tally, does, affected, push}
use Rattle.machine.specs.Step.{effect_at, execute, executed, is_unmark0, literal_step, step_by, due_in, step, run, ended}
use Rattle.machine.proofs.Inside.{token_inside}
use Rattle.operands.proofs.Reading.{is_card}
use Rattle.literals.specs.declared.Due.{Due}
use Rattle.literals.specs.Dues as dues
use Rattle.state.specs.declared.Registers.{Registers}
use Rattle.state.specs.declared.Tops.{Tops}
use Rattle.state.specs.Layout.{value_in, stack_of, contexts_of, abs, Good, Busy, Perhaps, Tried, Begun, Topmost}
use Rattle.state.proofs.Parts.{contexts_top}
use Rattle.state.proofs.Cutting.{over_above}
use Rattle.state.proofs.Trying.{trying, tried_as}
use Rattle.state.proofs.Ending.{not_on}
use Rattle.sprints.specs.Swift.{height_in, marked, quiet, Flat, stepped, Ready, Attempted}
use Rattle.effects.proofs.Acting.{nothing_done, is_acts, by_place}
use Rattle.sprints.proofs.Flatness.{flat}
use Rattle.sprints.proofs.Level.{flat_made, flat_of, flat_mark, flat_higher}
use Rattle.effects.proofs.Executing.{busy_lower, plain_done, plain_effect}
use Rattle.state.specs.Operations as table

-- ---- an operator without a body, in a row

module _ {w w' : List ℕ} {r q : Registers} {r' : Perhaps} (code : Code) (n a : ℕ) (o : Op) (t : Tops) (g : Busy w r) (eo : o ≡ op_of n) (ea : (a ≡ arity_of o) × (a ≤ 2)) (et : Topmost (above (stack_of (slots w) r.height)) t)
    (x y : Value) (e : Maybe Effect) (h : a ≤ t.count) (ex : x ≡ value_in t.first) (ey : y ≡ value_in t.second) (ee : e ≡ effect_of o x y) (eq : q ≡ trying r (r.height - a) r.depth r.used) (d : Tried (affected code e) w q w' r') where
  pub plain_flat : (k : ℕ) → flat e ≡ true → k ≡ height_in r' → Flat (marked w r.height) (execute code (Plain n)) w r w' k
  plain_flat k f i = flat_of code (Plain n) (rw (← (plain_effect code n a o t g eo ea et x y e h ex ey ee)) f) k r' i (plain_done code n a o t g eo ea et x y e h ex ey ee eq d)

-- ---- a literal, by its kind

module _ {w w' : List ℕ} {r : Registers} {r' : Perhaps} (code : Code) (x : Literal) where
  pub by_figure : (a : num.Number) → x ≡ Figure a → Tried (push (Number a)) w r w' r' → Tried (execute code x) w r w' r'
  unfolding execute provided popped effect_at performed affected pops
  by_figure a e t = rw e (tried_as (rw (le-leb 0 (length (above (stack_of (slots w) r.height))) (omega arith), over_above (stack_of (slots w) r.height))) t)

  pub by_name : (s l : ℕ) → x ≡ Name s l → Tried (table.utter s l) w r w' r' → Tried (execute code x) w r w' r'
  unfolding execute provided popped effect_at performed affected does worked pops table.utter
  by_name s l e t = rw e (tried_as (rw (le-leb 0 (length (above (stack_of (slots w) r.height))) (omega arith), over_above (stack_of (slots w) r.height))) t)

-- ---- an operator that the table has is no part of the skeleton

abbrev pub known : Op → Bool
known (OnVectors k) = true
known (OnFrame k) = true
known (Calls k) = true
known (OnStack k) = true
known (Tests k) = true
known (Reckons k) = true
known Unknown = false

abbrev Unknowns : List ℕ → Type 0
Unknowns [] = Unit
Unknowns (k ∷ ks) = (op_of k ≡ Unknown) × Unknowns ks

closing_unknown : Unknowns (107 ∷ [])
unfolding op_of op_in operators
closing_unknown = (refl, tt)

holders_unknown : Unknowns holders
unfolding op_of op_in operators
holders_unknown = (refl, (refl, (refl, (refl, (refl, (refl, tt))))))

barred_unknown : Unknowns barred
unfolding op_of op_in operators
barred_unknown = (refl, (refl, (refl, (refl, tt))))

unknown_by : (n k : ℕ) (ks : List ℕ) (b : Bool) → eqb n k ≡ b → op_of k ≡ Unknown → (one_of ks n ≡ true → op_of n ≡ Unknown) → b || one_of ks n ≡ true → op_of n ≡ Unknown
unknown_by n k ks true h u f i = rw (eqb-true n k h) u
unknown_by n k ks false h u f i = f i

unknown_in : (l : List ℕ) (n : ℕ) → Unknowns l → one_of l n ≡ true → op_of n ≡ Unknown
unfolding one_of
unknown_in [] n u e = not_on e
unknown_in (k ∷ ks) n u e = unknown_by n k ks (eqb n k) refl u.0 (λ h. unknown_in ks n u.1 h) e

clash : {X : Type 0} (o : Op) → o ≡ Unknown → known o ≡ true → X
clash o e k = let z : known Unknown ≡ true = rw e at k in not_on z

pub op_role : (n : ℕ) (o : Op) → o ≡ op_of n → known o ≡ true → role_of n ≡ role.Plain
unfolding role_of
op_role n o e k = pick (eqb n 107) refl (one_of holders n) refl (one_of barred n) refl
  where
    pick : (a : Bool) → eqb n 107 ≡ a → (b : Bool) → one_of holders n ≡ b → (c : Bool) → one_of barred n ≡ c → cond a role.Closes (cond b role.Holds (cond c role.Barred role.Plain)) ≡ role.Plain
    pick true h b i c j = clash o (e ∙ (rw (eqb-true n 107 h) closing_unknown.0)) k
    pick false h true i c j = clash o (e ∙ unknown_in holders n holders_unknown i) k
    pick false h false i true j = clash o (e ∙ unknown_in barred n barred_unknown j) k
    pick false h false i false j = refl

-- ---- operators by number

-- the operators that have functions of their own
pub by_number : (OnFrame Fget ≡ op_of 20) × (OnFrame Fset ≡ op_of 21) × (OnStack Pop ≡ op_of 180) × (OnStack Dup ≡ op_of 181) × (OnStack Count ≡ op_of 188) × (OnStack Nop ≡ op_of 1) × (Calls Do ≡ op_of 231) × (Reckons Add ≡ op_of 201) × (Reckons Div ≡ op_of 204) × (Reckons Mul ≡ op_of 210) × (Reckons Sub ≡ op_of 214) × (OnStack Mark ≡ op_of 186) × (OnStack Exch ≡ op_of 185) × (Tests And ≡ op_of 202) × (Tests Eq ≡ op_of 205) × (Tests Ge ≡ op_of 207) × (Tests Gt ≡ op_of 208) × (Tests Or ≡ op_of 213) × (OnVectors Get ≡ op_of 17) × (OnVectors Shape ≡ op_of 285)
unfolding op_of op_in operators
by_number = (refl, refl, refl, refl, refl, refl, refl, refl, refl, refl, refl, refl, refl, refl, refl, refl, refl, refl, refl, refl)

-- ADD, DIV, MUL, SUB
module _ (n : ℕ) (a b : num.Number) (r : Answer) where
  pub is_add : n ≡ 201 → r ≡ sum_of a b → answered r ≡ effect_of (op_of n) (Number b) (Number a)
  unfolding effect_of arith_effect of_two as_number
  is_add e i = rw (e, ← by_number.7, i)

  pub is_div : n ≡ 204 → r ≡ quotient_of a b → answered r ≡ effect_of (op_of n) (Number b) (Number a)
  unfolding effect_of arith_effect of_two as_number
  is_div e i = rw (e, ← by_number.8, i)

  pub is_mul : n ≡ 210 → r ≡ product_of a b → answered r ≡ effect_of (op_of n) (Number b) (Number a)
  unfolding effect_of arith_effect of_two as_number
  is_mul e i = rw (e, ← by_number.9, i)

  pub is_sub : OneOf (201 ∷ 204 ∷ 210 ∷ 214 ∷ []) n → (n ≡ 201 → ⊥) → (n ≡ 204 → ⊥) → (n ≡ 210 → ⊥) → r ≡ difference_of a b → answered r ≡ effect_of (op_of n) (Number b) (Number a)
  unfolding effect_of arith_effect of_two as_number
  is_sub (inl e) f g h i = absurd (f e)
  is_sub (inr (inl e)) f g h i = absurd (g e)
  is_sub (inr (inr (inl e))) f g h i = absurd (h e)
  is_sub (inr (inr (inr e))) f g h i = rw (e, ← by_number.10, i)

  -- the number that it gives
  pub gives_number : (c : num.Number) (x y : Value) → r ≡ Ok c → x ≡ Number b → y ≡ Number a → answered r ≡ effect_of (op_of n) (Number b) (Number a) → Some (Gives c) ≡ effect_of (op_of n) x y
  unfolding answered
  gives_number c x y e ex ey i = rw (ex, ey) (rw e at i)

-- or that there is none
pub fails_number : (n : ℕ) (a b : num.Number) (r : Answer) (x y : Value) {why : NoNumber} → r ≡ Err why → x ≡ Number b → y ≡ Number a → answered r ≡ effect_of (op_of n) (Number b) (Number a) → None ≡ effect_of (op_of n) x y
unfolding answered
fails_number n a b r x y k ex ey i = rw (ex, ey) (rw k at i)

pub sums_two : (n : ℕ) → OneOf (201 ∷ 204 ∷ 210 ∷ 214 ∷ []) n → (2 ≡ arity_of (op_of n)) × (2 ≤ 2)
unfolding arity_of arith_arity
sums_two n (inl e) = (rw (e, ← by_number.7), omega arith)
sums_two n (inr (inl e)) = (rw (e, ← by_number.8), omega arith)
sums_two n (inr (inr (inl e))) = (rw (e, ← by_number.9), omega arith)
sums_two n (inr (inr (inr e))) = (rw (e, ← by_number.10), omega arith)

sums_known : (n : ℕ) → OneOf (201 ∷ 204 ∷ 210 ∷ 214 ∷ []) n → known (op_of n) ≡ true
sums_known n (inl e) = rw (e, ← by_number.7)
sums_known n (inr (inl e)) = rw (e, ← by_number.8)
sums_known n (inr (inr (inl e))) = rw (e, ← by_number.9)
sums_known n (inr (inr (inr e))) = rw (e, ← by_number.10)

-- FGET, FSET
module _ (n : ℕ) where
  pub is_fget : n ≡ 20 → OnFrame Fget ≡ op_of n
  is_fget e = rw e by_number.0

  pub is_fset : OneOf (20 ∷ 21 ∷ []) n → (n ≡ 20 → ⊥) → OnFrame Fset ≡ op_of n
  is_fset (inl e) f = absurd (f e)
  is_fset (inr e) f = rw e by_number.1

-- AND, EQ, GE, GT, OR
module _ (n : ℕ) where
  pub is_and : n ≡ 202 → (Tests And ≡ op_of n) × (2 ≡ arity_of (Tests And))
  unfolding arity_of test_arity
  is_and e = (rw e by_number.13, refl)

  pub is_eq : n ≡ 205 → (Tests Eq ≡ op_of n) × (2 ≡ arity_of (Tests Eq))
  unfolding arity_of test_arity
  is_eq e = (rw e by_number.14, refl)

  pub is_ge : n ≡ 207 → (Tests Ge ≡ op_of n) × (2 ≡ arity_of (Tests Ge))
  unfolding arity_of test_arity
  is_ge e = (rw e by_number.15, refl)

  pub is_gt : n ≡ 208 → (Tests Gt ≡ op_of n) × (2 ≡ arity_of (Tests Gt))
  unfolding arity_of test_arity
  is_gt e = (rw e by_number.16, refl)

  pub is_or : OneOf (202 ∷ 205 ∷ 207 ∷ 208 ∷ 213 ∷ []) n → (n ≡ 202 → ⊥) → (n ≡ 205 → ⊥) → (n ≡ 207 → ⊥) → (n ≡ 208 → ⊥) → (Tests Or ≡ op_of n) × (2 ≡ arity_of (Tests Or))
  unfolding arity_of test_arity
  is_or (inl e) f g h i = absurd (f e)
  is_or (inr (inl e)) f g h i = absurd (g e)
  is_or (inr (inr (inl e))) f g h i = absurd (h e)
  is_or (inr (inr (inr (inl e)))) f g h i = absurd (i e)
  is_or (inr (inr (inr (inr e)))) f g h i = (rw e by_number.17, refl)

-- ---- what they do

pub frame_one : (k : FrameOp) → (1 ≡ arity_of (OnFrame k)) × (1 ≤ 2)
unfolding arity_of frame_arity
frame_one Fget = (refl, omega arith)
frame_one Fset = (refl, omega arith)

module _ (e : Maybe Effect) (x y : Value) where
  pub by_frame : (k : FrameOp) → e ≡ frame_effect k x → e ≡ effect_of (OnFrame k) x y
  unfolding effect_of
  by_frame k i = i

  pub by_test : (k : TestOp) → e ≡ test_effect k x y → e ≡ effect_of (Tests k) x y
  unfolding effect_of
  by_test k i = i

  pub by_vector : (k : VectorOp) → e ≡ vector_effect k x y → e ≡ effect_of (OnVectors k) x y
  unfolding effect_of
  by_vector k i = i

pub vector_arity_lem : (k : VectorOp) (a : ℕ) → (a ≡ vector_arity k) × (a ≤ 2) → (a ≡ arity_of (OnVectors k)) × (a ≤ 2)
unfolding arity_of
vector_arity_lem k a e = e

pop_one : (1 ≡ arity_of (OnStack Pop)) × (1 ≤ 2)
unfolding arity_of stack_arity
pop_one = (refl, omega arith)

mark_one : (1 ≡ arity_of (OnStack Mark)) × (1 ≤ 2)
unfolding arity_of stack_arity
mark_one = (refl, omega arith)

mark_pops : popped (Plain 186) ≡ 1
unfolding popped arity_of stack_arity
mark_pops = rw (← by_number.11)

mark_places : (n : ℕ) (x y : Value) (c : Maybe ℕ) → c ≡ cardinal? x → c ≡ Some n → n ≡ 0 → Some (Acts (Place 0)) ≡ effect_of (OnStack Mark) x y
unfolding effect_of stack_effect
mark_places n x y c ec e z = is_card x (λ m. Some (Acts (Place m))) ec (rw z at e)

pop_effect : (x y : Value) → Some (Acts (Works Nothing)) ≡ effect_of (OnStack Pop) x y
unfolding effect_of stack_effect
pop_effect x y = refl

-- DUP, COUNT, NOP, UNMARK0 and EXCH pop nothing before the engine's part
pops_none : (popped (Plain 181) ≡ 0) × (popped (Plain 188) ≡ 0) × (popped (Plain 1) ≡ 0) × (popped (Plain 192) ≡ 0) × (popped (Plain 185) ≡ 0)
unfolding popped op_of op_in operators arity_of stack_arity
pops_none = (refl, refl, refl, refl, refl)

-- which is this
own_part : (x y : Value) → (performed (Plain 181) x y ≡ Some (Acts (Works (Repeat 1)))) × (performed (Plain 188) x y ≡ Some (Acts Tally)) × (performed (Plain 1) x y ≡ Some (Acts (Works Nothing))) × (performed (Plain 192) x y ≡ Some (Acts (Remove 0))) × (performed (Plain 185) x y ≡ Some (Acts (Works (Turn 2 1))))
unfolding performed op_of op_in operators effect_of stack_effect
own_part x y = (refl, refl, refl, refl, refl)

once_flat : (n : ℕ) (e : Maybe Effect) → ((x y : Value) → performed (Plain n) x y ≡ e) → (s : State) → flat e ≡ true → flat (effect_at (Plain n) s) ≡ true
unfolding effect_at
once_flat n e i s f = let vs = above s.stack in rw (i (get_or vs 0 state.zero) (get_or vs 1 state.zero)) f

module _ {w w' : List ℕ} {r : Registers} (code : Code) where
  rests : {r' : Perhaps} → Tried (worked code Nothing) w r w' r' → Tried (affected code (Some (Acts (Works Nothing)))) w r w' r'
  unfolding affected does
  rests t = t

  repeats : {r' : Perhaps} → Tried (repeat 1) w r w' r' → Tried (affected code (Some (Acts (Works (Repeat 1))))) w r w' r'
  unfolding affected does worked
  repeats t = t

  turns : {r' : Perhaps} → Tried (turn 2 1) w r w' r' → Tried (affected code (Some (Acts (Works (Turn 2 1))))) w r w' r'
  unfolding affected does worked
  turns t = t

  tallies : {r' : Perhaps} → Tried tally w r w' r' → Tried (affected code (Some (Acts Tally))) w r w' r'
  unfolding affected does
  tallies t = t

  removes : {r' : Perhaps} → Tried (remove 0) w r w' r' → Tried (affected code (Some (Acts (Remove 0)))) w r w' r'
  unfolding affected does
  removes t = t

  module _ (n : ℕ) (e : Maybe Effect) (z : popped (Plain n) ≡ 0) (i : (x y : Value) → performed (Plain n) x y ≡ e) where
    at_once : {r' : Perhaps} → Tried (affected code e) w r w' r' → Tried (execute code (Plain n)) w r w' r'
    unfolding execute provided pops effect_at
    at_once t =
        let vs = above (stack_of (slots w) r.height) in
        tried_as (rw (z, i (get_or vs 0 state.zero) (get_or vs 1 state.zero), le-leb 0 (length vs) (omega arith), over_above (stack_of (slots w) r.height))) t

  pub is_unmark : (n : ℕ) (p : Perhaps) → n ≡ 192 → Tried (remove 0) w r w' p → Tried (execute code (Plain n)) w r w' p
  is_unmark n p e t = rw e (at_once 192 (Some (Acts (Remove 0))) pops_none.3 (λ x y. (own_part x y).3) (removes t))

  module _ (n h : ℕ) (p : Perhaps) (a : h ≡ height_in p) where
    pub is_dup : n ≡ 181 → Tried (repeat 1) w r w' p → Flat (marked w r.height) (execute code (Plain n)) w r w' h × ((h ≡ 129 → ⊥) → role_of n ≡ role.Plain)
    is_dup e t =
        rw e
        (flat_of code (Plain 181) (once_flat 181 (Some (Acts (Works (Repeat 1)))) (λ x y. (own_part x y).0) (abs w r) refl) h p a (at_once 181 (Some (Acts (Works (Repeat 1)))) pops_none.0 (λ x y. (own_part x y).0) (repeats t)), λ _. op_role 181 (OnStack Dup) by_number.3 refl)

    pub is_exch : n ≡ 185 → Tried (turn 2 1) w r w' p → Flat (marked w r.height) (execute code (Plain n)) w r w' h × ((h ≡ 129 → ⊥) → role_of n ≡ role.Plain)
    is_exch e t =
        rw e
        (flat_of code (Plain 185) (once_flat 185 (Some (Acts (Works (Turn 2 1)))) (λ x y. (own_part x y).4) (abs w r) refl) h p a (at_once 185 (Some (Acts (Works (Turn 2 1)))) pops_none.4 (λ x y. (own_part x y).4) (turns t)), λ _. op_role 185 (OnStack Exch) by_number.12 refl)

    pub is_count : n ≡ 188 → Tried tally w r w' p → Flat (marked w r.height) (execute code (Plain n)) w r w' h × ((h ≡ 129 → ⊥) → role_of n ≡ role.Plain)
    is_count e t =
        rw e
        (flat_of code (Plain 188) (once_flat 188 (Some (Acts Tally)) (λ x y. (own_part x y).1) (abs w r) refl) h p a (at_once 188 (Some (Acts Tally)) pops_none.1 (λ x y. (own_part x y).1) (tallies t)), λ _. op_role 188 (OnStack Count) by_number.4 refl)

-- values popped, the height that is left
pub pop_flat : {w : List ℕ} {r : Registers} (code : Code) (t : Tops) → Busy w r → Topmost (above (stack_of (slots w) r.height)) t → 1 ≤ t.count → 1 ≤ r.height → Flat (marked w r.height) (execute code (Plain 180)) w r w (r.height - 1)
unfolding effect_at performed
pop_flat {w} {r} code t g et h k =
    let q = trying r (r.height - 1) r.depth r.used in
    flat_made code (Plain 180) (rw (← by_number.2) (ap flat (sym (pop_effect _ _)))) (r.height - 1) (omega arith)
    (plain_done code 180 1 (OnStack Pop) t g by_number.2 pop_one et (value_in t.first) (value_in t.second) (Some (Acts (Works Nothing))) h refl refl (pop_effect (value_in t.first) (value_in t.second)) refl
    (rests code (nothing_done code (busy_lower 1 g refl) refl)))

-- MARK under no value
pub mark_flat : {top : ℕ} {w w' : List ℕ} {r q : Registers} {p : Perhaps} (code : Code) (n h : ℕ) (t : Tops) → Busy w r → Topmost (above (stack_of (slots w) r.height)) t → 1 ≤ t.count → (x : Value) → x ≡ value_in t.first → (c : Maybe ℕ) → c ≡ cardinal? x → c ≡ Some n → n ≡ 0
    → r.height ≤ top → q ≡ trying r (r.height - 1) r.depth r.used → Tried (place 0) w q w' p → h ≡ height_in p → Flat top (execute code (Plain 186)) w r w' h
mark_flat {p = p} code n h t g et there x ex c ec e z low eq d a =
    let y = value_in t.second in
    let i = mark_places n x y c ec e z in
    flat_mark code (Plain 186) mark_pops (sym (plain_effect code 186 1 (OnStack Mark) t g by_number.11 mark_one et x y (Some (Acts (Place 0))) there ex refl i)) low h p a
    (plain_done code 186 1 (OnStack Mark) t g by_number.11 mark_one et x y (Some (Acts (Place 0))) there ex refl i eq (is_acts code (Some (Acts (Place 0))) (Place 0) refl (by_place code (Place 0) 0 0 refl refl d)))

pub is_nop : {w : List ℕ} {r : Registers} (code : Code) (n : ℕ) → Busy w r → n ≡ 1 → Flat (marked w r.height) (execute code (Plain n)) w r w r.height × ((r.height ≡ 129 → ⊥) → role_of n ≡ role.Plain)
is_nop {w} {r} code n g e =
    rw e
    (flat_made code (Plain 1) (once_flat 1 (Some (Acts (Works Nothing))) (λ x y. (own_part x y).2) (abs w r) refl) r.height g.stack_fits (at_once code 1 (Some (Acts (Works Nothing))) pops_none.2 (λ x y. (own_part x y).2) (rests code (nothing_done code g refl))), λ _. op_role 1 (OnStack Nop) by_number.5 refl)

-- the same registers one by one
quiet_is : (r : Registers) → r.skipping ≡ false → r ≡ quiet r.height r.depth r.used r.steps r.errors
quiet_is r still = λ i. record { height = r.height; depth = r.depth; used = r.used; steps = r.steps; errors = r.errors; skipping = still i }

-- the others by number
module _ {w w' : List ℕ} {r : Registers} (code : Code) (n h : ℕ) where
  pub is_pop : n ≡ 180 → Flat (marked w r.height) (execute code (Plain 180)) w r w' h → Flat (marked w r.height) (execute code (Plain n)) w r w' h × ((h ≡ 129 → ⊥) → role_of n ≡ role.Plain)
  is_pop e t = rw e (t, λ _. op_role 180 (OnStack Pop) by_number.2 refl)

  pub is_mark_lem : {clear : ℕ} → n ≡ 186 → Flat clear (execute code (Plain 186)) w r w' h → Flat clear (execute code (Plain n)) w r w' h × ((h ≡ 129 → ⊥) → role_of n ≡ role.Plain)
  is_mark_lem e t = rw e (t, λ _. op_role 186 (OnStack Mark) by_number.11 refl)

  module _ (o : Op) (k : known o ≡ true) (t : (c : Code) (m : ℕ) → o ≡ op_of m → Flat (marked w r.height) (execute c (Plain m)) w r w' h) where
    by_op : o ≡ op_of n → Flat (marked w r.height) (execute code (Plain n)) w r w' h × ((h ≡ 129 → ⊥) → role_of n ≡ role.Plain)
    by_op e = (t code n e, λ _. op_role n o e k)

  pub is_frame : (o : FrameOp) → OnFrame o ≡ op_of n → ((c : Code) (m : ℕ) → OnFrame o ≡ op_of m → Flat (marked w r.height) (execute c (Plain m)) w r w' h) → Flat (marked w r.height) (execute code (Plain n)) w r w' h × ((h ≡ 129 → ⊥) → role_of n ≡ role.Plain)
  is_frame o e t = by_op (OnFrame o) refl t e

  pub is_test : (o : TestOp) → Tests o ≡ op_of n → ((c : Code) (m : ℕ) → Tests o ≡ op_of m → Flat (marked w r.height) (execute c (Plain m)) w r w' h) → Flat (marked w r.height) (execute code (Plain n)) w r w' h × ((h ≡ 129 → ⊥) → role_of n ≡ role.Plain)
  is_test o e t = by_op (Tests o) refl t e

  module _ (still : r.skipping ≡ false) where
    pub is_get : n ≡ 17 → ((c : Code) (m : ℕ) → OnVectors Get ≡ op_of m → Flat (marked w r.height) (execute c (Plain m)) w (quiet r.height r.depth r.used r.steps r.errors) w' h) → Flat (marked w r.height) (execute code (Plain n)) w r w' h × ((h ≡ 129 → ⊥) → role_of n ≡ role.Plain)
    is_get e t = by_op (OnVectors Get) refl (λ c m i. rw (quiet_is r still) (t c m i)) (rw e by_number.18)

    pub is_shape : n ≡ 285 → ((c : Code) (m : ℕ) → OnVectors Shape ≡ op_of m → Flat (marked w r.height) (execute c (Plain m)) w (quiet r.height r.depth r.used r.steps r.errors) w' h) → Flat (marked w r.height) (execute code (Plain n)) w r w' h × ((h ≡ 129 → ⊥) → role_of n ≡ role.Plain)
    is_shape e t = by_op (OnVectors Shape) refl (λ c m i. rw (quiet_is r still) (t c m i)) (rw e by_number.19)

  pub is_reckon : OneOf (201 ∷ 204 ∷ 210 ∷ 214 ∷ []) n → ((c : Code) → Flat (marked w r.height) (execute c (Plain n)) w r w' h) → Flat (marked w r.height) (execute code (Plain n)) w r w' h × ((h ≡ 129 → ⊥) → role_of n ≡ role.Plain)
  is_reckon o t = (t code, λ _. op_role n (op_of n) refl (sums_known n o))

-- marks may stand higher
pub operated : {top clear h : ℕ} {f : State → Option State} {w w' : List ℕ} {r : Registers} (n : ℕ) → top ≤ clear → Flat top f w r w' h × ((h ≡ 129 → ⊥) → role_of n ≡ role.Plain) → Flat clear f w r w' h × ((h ≡ 129 → ⊥) → role_of n ≡ role.Plain)
operated n l d = (flat_higher l d.0, d.1)

-- ---- the literal at a place

module _ (b : List ℕ) (at : ℕ) (f : Form) (shows : Shows b at f) where
  pub number_inside : (raw next : ℕ) → f ≡ form.Number raw next → next ≤ length b
  number_inside raw next e =
      let t : token_at b at ≡ Ok (read.Number (record { num = pos raw -ℤ pos bias; den = 1 }) next) = rw e at shows in
      (rw t at (token_inside b at)).1

  pub found_number : (raw next past : ℕ) (a : num.Number) → f ≡ form.Number raw next → a ≡ record { num = pos raw -ℤ pos bias; den = 1 } → past ≡ solid b next → found_at b at ≡ record { literal = Figure a; next = past }
  unfolding found_at found_by
  found_number raw next past a e en ep =
      let t : token_at b at ≡ Ok (read.Number (record { num = pos raw -ℤ pos bias; den = 1 }) next) = rw e at shows in
      rw (t, en, ep)

pub figure_flat : (a : num.Number) (s : State) → flat (effect_at (Figure a) s) ≡ true
unfolding effect_at performed
figure_flat a s = refl

pub name_flat : (start len : ℕ) (s : State) → flat (effect_at (Name start len) s) ≡ true
unfolding effect_at performed
name_flat start len s = refl

pub found_due : (f : Found) (d : Due) (x : Literal) → dues.Is f d → d.literal ≡ x → f ≡ record { literal = x; next = d.next }
found_due f d x i e = λ k. record { literal = (sym i.literal ∙ e) k; next = (sym i.next) k }

-- what was done may settle
pub settles : {w : List ℕ} {r : Registers} → Busy w r → Good w r × (r.errors < r.steps)
settles b = (record { room = b.room; stack_fits = b.stack_fits; depth_fits = b.depth_fits; cells_fit = b.cells_fit; frames_fit = b.frames_fit; errors_fit = omega (arith, b.errors_fit) }, b.errors_fit)

-- ---- a step but for the end of bodies

module _ {code : Code} {b w : List ℕ} {at : ℕ} {r : Registers} (ready : Ready code b at w r) where
  module _ {w₁ : List ℕ} {q : Registers} (past n : ℕ) (en : n ≡ past) (be : Begun n w r w₁ q) where
    due_step : (x : Literal) → found_at b at ≡ record { literal = x; next = past } → step code (abs w r) ≡ executed (abs w₁ q) (execute code x (abs w₁ q))
    unfolding step step_by due_in literal_step
    due_step x found =
        let e : r.skipping && not (is_unmark0 x) ≡ false = rw (← ready.bytes, ← ready.place, found) at ready.executes in
        rw (← ready.bytes, ← ready.place, found, ← en, ← be.does, e)

    -- tried
    pub attempted : {w' : List ℕ} {p : Perhaps} (x : Literal) → found_at b at ≡ record { literal = x; next = past } → Tried (execute code x) w₁ q w' p → Attempted code w r w' p
    unfolding executed
    attempted {w' = w'} {p = Some p} x found t = record {
      busy = t.busy;
      counted = t.counted ∙ be.counted;
      keeps = t.keeps ∙ be.keeps;
      does =
          let d : some (abs w' p) ≡ execute code x (abs w₁ q) = t.does in
          sym (due_step x found ∙ (rw (← d)));
      fails = tt;
      good = tt;
    }
    attempted {w' = w'} {p = None} x found t = record {
      busy = tt;
      counted = tt;
      keeps = t.keeps ∙ be.keeps;
      does = tt;
      fails =
          let d : none ≡ execute code x (abs w₁ q) = t.does in
          let e : abs w' (stepped r r.height) ≡ abs w₁ q = rw (t.back refl, be.registers) in
          ap fault e ∙ sym (due_step x found ∙ (rw (← d)));
      good = rw (t.back refl) (settles (rw be.registers at be.busy)).0;
    }

-- ---- some steps at once

pub not_ended : (m : List Slot) (d : ℕ) → 0 < d → ended (contexts_of m d) ≡ false
unfolding ended
not_ended m d h = rw (contexts_top m d h)

run_stays : (code : Code) (n : ℕ) (s : State) → ended s.contexts ≡ true → run n code s ≡ s
unfolding run
run_stays code zero s e = refl
run_stays code (suc n) s e = rw e

last_by : (code : Code) (n : ℕ) (s : State) (b : Bool) → ended s.contexts ≡ b → ended (run (suc n) code s).contexts ≡ false
    → (ended (run n code (step code s)).contexts ≡ false → run (suc n) code (step code s) ≡ step code (run n code (step code s))) → run (suc (suc n)) code s ≡ step code (run (suc n) code s)
unfolding run
last_by code n s true h e f = not_on (sym (rw h at e) ∙ h)
last_by code n s false h e f = rw h (f (rw h at e))

pub run_last : (code : Code) (n : ℕ) (s : State) → ended (run n code s).contexts ≡ false → run (suc n) code s ≡ step code (run n code s)
unfolding run
run_last code zero s e = rw e
run_last code (suc n) s e = last_by code n s (ended s.contexts) refl e (λ h. run_last code n (step code s) h)

-- a step after k steps
pub run_next : (code : Code) (k : ℕ) (s : State) (w : List ℕ) (r : Registers) → run k code s ≡ abs w r → 0 < r.depth → run (suc k) code s ≡ step code (abs w r)
run_next code k s w r inv runs = run_last code k s (rw inv (not_ended (slots w) r.depth runs)) ∙ ap (step code) inv

both_by : (code : Code) (k m : ℕ) (s : State) (b : Bool) → ended s.contexts ≡ b → run (k + m) code (step code s) ≡ run m code (run k code (step code s)) → run (suc (k + m)) code s ≡ run m code (run (suc k) code s)
unfolding run
both_by code k m s true h f = rw h (sym (run_stays code m s h))
both_by code k m s false h f = rw h f

pub run_both : (code : Code) (k m : ℕ) (s : State) → run (k + m) code s ≡ run m code (run k code s)
unfolding run
run_both code zero m s = let z : 0 + m ≡ m = omega arith in rw z
run_both code (suc k) m s = let z : suc k + m ≡ suc (k + m) = omega arith in rw z (both_by code k m s (ended s.contexts) refl (run_both code k m (step code s)))

-- ---- several in a row

-- none yet
pub none_run : (code : Code) (n : ℕ) (s : State) → run (n - n) code s ≡ s
unfolding run
none_run code n s = let z : n - n ≡ 0 = omega arith in rw z

-- ---- after a step

-- a step that has not failed may settle
pub may_settle : {f : State → Option State} {w₁ w₂ : List ℕ} {s : Registers} {q : Perhaps} {p : Registers} → Tried f w₁ s w₂ q → q ≡ Some p → Good w₂ p × (p.errors < p.steps)
may_settle {f = f} {w₁ = w₁} {w₂ = w₂} {s = s} {p = p} t e = let u : Tried f w₁ s w₂ (Some p) = rw e at t in settles u.busy

-- one that has failed may recover
pub faults : {f : State → Option State} {w w₁ w₂ : List ℕ} {r s z : Registers} {q : Perhaps} (n : ℕ) → Begun n w r w₁ s → Tried f w₁ s w₂ q → q ≡ None → z ≡ stepped r r.height → Good w₂ z × (z.errors < z.steps)
faults n be t o i = let b = be.busy in rw (t.back o, i) (settles (rw be.registers at b))
