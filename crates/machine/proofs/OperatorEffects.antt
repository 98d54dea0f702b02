-- What every operator does, said once: a claim P of effects that every harmless effect has, that the call of the topmost value x has, and
-- that composing and entering a literal's own body have, is had by the literal's effect. In order: harmless effects; operands; operators;
-- a literal. Assumes nothing.
use Rattle.std.specs.Prelude.{Ok, Err, Option, Some, None}
use Prim.Native.Nat.{ℕ}
use mathlib.Core.Path.{◌≡◌, refl}
use mathlib.Core.Bool.{Bool, true, false}
use lib.Dec.{eqb}
use Rattle.numbers.specs.declared.Number as num
use Rattle.numbers.specs.Fraction.{Answer}
use Rattle.numbers.specs.declared.NoNumber.TheVariants.{TooLarge, ByZero}
use Rattle.numbers.proofs.Cond.{either}
use Rattle.machine.specs.declared.Value.{Value}
use Rattle.machine.specs.declared.Value.TheVariants.{Number, Identifier, Vector, Operator}
use Rattle.machine.specs.declared.Literal.{Literal}
use Rattle.machine.specs.declared.Literal.TheVariants.{Figure, Name, Text, Plain, WithBody}
use Rattle.machine.specs.declared.VectorOp.{VectorOp}
use Rattle.machine.specs.declared.VectorOp.TheVariants.{Get, MakeVecLu, MakeVec, Shape}
use Rattle.machine.specs.declared.FrameOp.{FrameOp}
use Rattle.machine.specs.declared.FrameOp.TheVariants.{Fget, Fset}
use Rattle.machine.specs.declared.CallOp.{CallOp}
use Rattle.machine.specs.declared.CallOp.TheVariants.{Do, DoSave, DoSaveAll}
use Rattle.machine.specs.declared.StackOp.{StackOp}
use Rattle.machine.specs.declared.StackOp.TheVariants.{Pop, Copy, Dup, Roll, Exch, Mark, Unmark, Unmark0, Count, Nop, Error}
use Rattle.machine.specs.declared.TestOp.{TestOp}
use Rattle.machine.specs.declared.TestOp.TheVariants.{Eq, Gt, Ge, And, Or, Not, TypeOf}
use Rattle.machine.specs.declared.ArithOp.{ArithOp}
use Rattle.machine.specs.declared.ArithOp.TheVariants.{Add, Sub, Neg, Abs, Floor, Ceiling, Trunc, Round, Mul, Div, Mod, Rem}
use Rattle.machine.specs.declared.Op.{Op}
use Rattle.machine.specs.declared.Op.TheVariants.{OnVectors, OnFrame, Calls, OnStack, Tests, Reckons, Unknown}
use Rattle.machine.specs.declared.BodyOp.{BodyOp}
use Rattle.machine.specs.declared.BodyOp.TheVariants.{MakeSimpleCo, DoSaveSimpleBody, If, IfElse, PassOver}
use Rattle.machine.specs.declared.Work.{Work}
use Rattle.machine.specs.declared.Work.TheVariants as work
use Rattle.machine.specs.declared.Next.{Next}
use Rattle.machine.specs.declared.Next.TheVariants.{Works, Inline, Call, Store, Place, Remove, Tally}
use Rattle.machine.specs.declared.Effect.{Effect}
use Rattle.machine.specs.declared.Effect.TheVariants.{Gives, Gives2, Acts}
use Rattle.machine.specs.Operand.{cardinal?, if_some, as_cardinal, as_number, as_vector, whether, only_if, answered}
use Rattle.machine.specs.Ops.Vector.{vector_effect}
use Rattle.machine.specs.Ops.Frame.{frame_effect}
use Rattle.machine.specs.Ops.Call.{called, call_effect}
use Rattle.machine.specs.Ops.Stack.{stack_effect}
use Rattle.machine.specs.Ops.Control.{body_effect}
use Rattle.machine.specs.Ops.Test.{equals, compared, joined, test_effect}
use Rattle.machine.specs.Ops.Arith.{of_one, of_two, arith_effect}
use Rattle.machine.specs.Operators.{op_of, body_op_of, effect_of, performed}

-- ---- harmless effects: no body is composed, entered or called

abbrev Idle : Work → Type 0
Idle work.Nothing = Unit
Idle (work.Fetch j) = Unit
Idle (work.Element cell) = Unit
Idle (work.Build lower count) = Unit
Idle (work.Spell start) = Unit
Idle (work.Utter start len) = Unit
Idle (work.Compose start len) = ⊥
Idle (work.Repeat count) = Unit
Idle (work.Turn depth first) = Unit
Idle (work.Match v w) = Unit
Idle (work.Report v) = Unit

abbrev Stays : Next → Type 0
Stays (Works w) = Idle w
Stays (Inline start len owes) = ⊥
Stays (Call origin start len first) = ⊥
Stays (Store j) = Unit
Stays (Place count) = Unit
Stays (Remove count) = Unit
Stays Tally = Unit

abbrev pub Harmless : Option Effect → Type 0
Harmless None = Unit
Harmless (Some (Gives a)) = Unit
Harmless (Some (Gives2 a b)) = Unit
Harmless (Some (Acts x)) = Stays x

-- P of what may be done with a literal's own body
abbrev pub OfBody : (Option Effect → Type 0) → ℕ → ℕ → Type 0
OfBody P start len = P (Some (Acts (Works (work.Compose start len)))) × ((owes : Bool) → P (Some (Acts (Inline start len owes))))

module _ (P : Option Effect → Type 0) (fine : (e : Option Effect) → Harmless e → P e) where
  -- ---- operands

  some_has : (o : Option ℕ) (f : ℕ → Option Effect) → ((k : ℕ) → P (f k)) → P (if_some o f)
  unfolding if_some
  some_has None f h = fine _ tt
  some_has (Some k) f h = h k

  cardinal_has : (v : Value) (f : ℕ → Option Effect) → ((k : ℕ) → P (f k)) → P (as_cardinal v f)
  unfolding as_cardinal
  cardinal_has v f h = some_has (cardinal? v) f h

  number_has : (v : Value) (f : num.Number → Option Effect) → ((a : num.Number) → P (f a)) → P (as_number v f)
  unfolding as_number
  number_has (Number a) f h = h a
  number_has (Identifier origin start len) f h = fine _ tt
  number_has (Vector first lower count) f h = fine _ tt
  number_has (Operator origin start len first) f h = fine _ tt

  vector_has : (v : Value) (f : ℕ → ℕ → ℕ → Option Effect) → ((a b c : ℕ) → P (f a b c)) → P (as_vector v f)
  unfolding as_vector
  vector_has (Number a) f h = fine _ tt
  vector_has (Identifier origin start len) f h = fine _ tt
  vector_has (Vector first lower count) f h = h first lower count
  vector_has (Operator origin start len first) f h = fine _ tt

  only_has : (b : Bool) (e : Option Effect) → P e → P (only_if b e)
  unfolding only_if
  only_has b e h = either P b e None (λ _. h) (λ _. fine _ tt)

  answered_has : (a : Answer) → P (answered a)
  unfolding answered
  answered_has (Ok a) = fine _ tt
  answered_has (Err TooLarge) = fine _ tt
  answered_has (Err ByZero) = fine _ tt

  -- ---- the operators

  vectors_has : (o : VectorOp) (x y : Value) → P (vector_effect o x y)
  unfolding vector_effect
  vectors_has Get x y = cardinal_has x _ (λ j. vector_has y _ (λ first lower count. only_has _ _ (fine _ tt)))
  vectors_has MakeVecLu x y = cardinal_has x _ (λ u. cardinal_has y _ (λ l. only_has _ _ (fine _ tt)))
  vectors_has MakeVec x y = cardinal_has x _ (λ k. fine _ tt)
  vectors_has Shape x y = vector_has x _ (λ first lower count. fine _ tt)

  frames_has : (o : FrameOp) (x : Value) → P (frame_effect o x)
  unfolding frame_effect
  frames_has Fget x = cardinal_has x _ (λ j. only_has _ _ (fine _ tt))
  frames_has Fset x = cardinal_has x _ (λ j. only_has _ _ (fine _ tt))

  calls_has : (o : CallOp) (x : Value) → P (called x) → P (call_effect o x)
  unfolding call_effect
  calls_has Do x h = h
  calls_has DoSave x h = h
  calls_has DoSaveAll x h = h

  stack_has : (o : StackOp) (x y : Value) → P (stack_effect o x y)
  unfolding stack_effect
  stack_has Pop x y = fine _ tt
  stack_has Copy x y = cardinal_has x _ (λ k. fine _ tt)
  stack_has Dup x y = fine _ tt
  stack_has Roll x y = cardinal_has x _ (λ m. cardinal_has y _ (λ k. only_has _ _ (fine _ tt)))
  stack_has Exch x y = fine _ tt
  stack_has Mark x y = cardinal_has x _ (λ k. fine _ tt)
  stack_has Unmark x y = cardinal_has x _ (λ k. fine _ tt)
  stack_has Unmark0 x y = fine _ tt
  stack_has Count x y = fine _ tt
  stack_has Nop x y = fine _ tt
  stack_has Error x y = cardinal_has x _ (λ k. vector_has y _ (λ first lower count. only_has _ _ (fine _ tt)))

  equals_has : (x y : Value) → P (equals x y)
  unfolding equals whether
  equals_has (Number a) (Number b) = fine _ tt
  equals_has (Number a) (Identifier origin start len) = fine _ tt
  equals_has (Number a) (Vector first lower count) = fine _ tt
  equals_has (Number a) (Operator origin start len first) = fine _ tt
  equals_has (Identifier o s l) (Number b) = fine _ tt
  equals_has (Identifier o s l) (Identifier origin start len) = fine _ tt
  equals_has (Identifier o s l) (Vector first lower count) = fine _ tt
  equals_has (Identifier o s l) (Operator origin start len first) = fine _ tt
  equals_has (Vector f l c) y = fine _ tt
  equals_has (Operator o s l f) y = fine _ tt

  compared_has : (x y : Value) (f : num.Number → num.Number → Bool) → P (compared x y f)
  unfolding compared whether
  compared_has x y f = number_has y _ (λ a. number_has x _ (λ b. fine _ tt))

  joined_has : (x y : Value) (f : Bool → Bool → Bool) → P (joined x y f)
  unfolding joined whether
  joined_has x y f = cardinal_has y _ (λ a. cardinal_has x _ (λ b. fine _ tt))

  tests_has : (o : TestOp) (x y : Value) → P (test_effect o x y)
  unfolding test_effect whether
  tests_has Eq x y = equals_has x y
  tests_has Gt x y = compared_has x y _
  tests_has Ge x y = compared_has x y _
  tests_has And x y = joined_has x y _
  tests_has Or x y = joined_has x y _
  tests_has Not x y = cardinal_has x _ (λ b. fine _ tt)
  tests_has TypeOf x y = fine _ tt

  one_has : (f : num.Number → Answer) (x : Value) → P (of_one f x)
  unfolding of_one
  one_has f x = number_has x _ (λ a. answered_has (f a))

  two_has : (f : num.Number → num.Number → Answer) (x y : Value) → P (of_two f x y)
  unfolding of_two
  two_has f x y = number_has y _ (λ a. number_has x _ (λ b. answered_has (f a b)))

  arith_has : (o : ArithOp) (x y : Value) → P (arith_effect o x y)
  unfolding arith_effect
  arith_has Add x y = two_has _ x y
  arith_has Sub x y = two_has _ x y
  arith_has Neg x y = one_has _ x
  arith_has Abs x y = one_has _ x
  arith_has Floor x y = one_has _ x
  arith_has Ceiling x y = one_has _ x
  arith_has Trunc x y = one_has _ x
  arith_has Round x y = one_has _ x
  arith_has Mul x y = two_has _ x y
  arith_has Div x y = two_has _ x y
  arith_has Mod x y = two_has _ x y
  arith_has Rem x y = two_has _ x y

  operator_has : (o : Op) (x y : Value) → P (called x) → P (effect_of o x y)
  unfolding effect_of
  operator_has (OnVectors o) x y h = vectors_has o x y
  operator_has (OnFrame o) x y h = frames_has o x
  operator_has (Calls o) x y h = calls_has o x h
  operator_has (OnStack o) x y h = stack_has o x y
  operator_has (Tests o) x y h = tests_has o x y
  operator_has (Reckons o) x y h = arith_has o x y
  operator_has Unknown x y h = fine _ tt

  body_has : (o : BodyOp) (start len : ℕ) (x : Value) → OfBody P start len → P (body_effect o start len x)
  unfolding body_effect
  body_has MakeSimpleCo start len x h = h.0
  body_has DoSaveSimpleBody start len x h = h.1 false
  body_has If start len x h = cardinal_has x _ (λ i. either P (eqb i 0) _ _ (λ _. fine _ tt) (λ _. h.1 false))
  body_has IfElse start len x h = cardinal_has x _ (λ i. either P (eqb i 0) _ _ (λ _. fine _ tt) (λ _. h.1 true))
  body_has PassOver start len x h = fine _ tt

  -- ---- a literal

  pub performed_has : (l : Literal) (x y : Value) → ((n start len : ℕ) → l ≡ WithBody n start len → OfBody P start len) → P (called x) → P (performed l x y)
  unfolding performed
  performed_has (Figure a) x y h g = fine _ tt
  performed_has (Name start len) x y h g = fine _ tt
  performed_has (Text start) x y h g = fine _ tt
  performed_has (Plain n) x y h g = operator_has (op_of n) x y g
  performed_has (WithBody n start len) x y h g = body_has (body_op_of n) start len x (h n start len refl)
