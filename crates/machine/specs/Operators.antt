-- The operators by number (000, appendix B.3), and a literal's effect. The tables are data; a number that stands in none is a master error
-- when executed (01, The machine). Assumes nothing.
use Rattle.std.specs.Prelude.{ℕ, cond, List, [], ◌∷◌, eqb, Option, Some, None}
use Rattle.machine.specs.declared.Value.{Value}
use Rattle.machine.specs.declared.Literal.{Literal}
use Rattle.machine.specs.declared.Literal.TheVariants.{Figure, Name, Text, Plain, WithBody}
use Rattle.machine.specs.declared.VectorOp.TheVariants.{Get, MakeVecLu, MakeVec, Shape}
use Rattle.machine.specs.declared.FrameOp.TheVariants.{Fget, Fset}
use Rattle.machine.specs.declared.CallOp.TheVariants.{Do, DoSave, DoSaveAll}
use Rattle.machine.specs.declared.StackOp.TheVariants.{Pop, Copy, Dup, Roll, Exch, Mark, Unmark, Unmark0, Count, Nop, Error}
use Rattle.machine.specs.declared.TestOp.TheVariants.{Eq, Gt, Ge, And, Or, Not, TypeOf}
use Rattle.machine.specs.declared.ArithOp.TheVariants.{Add, Sub, Neg, Abs, Floor, Ceiling, Trunc, Round, Mul, Div, Mod, Rem}
use Rattle.machine.specs.declared.Op.{Op}
use Rattle.machine.specs.declared.Op.TheVariants.{OnVectors, OnFrame, Calls, OnStack, Tests, Reckons, Unknown}
use Rattle.machine.specs.declared.BodyOp.{BodyOp}
use Rattle.machine.specs.declared.BodyOp.TheVariants.{MakeSimpleCo, DoSaveSimpleBody, If, IfElse, PassOver}
use Rattle.machine.specs.declared.Work.TheVariants.{Spell, Utter}
use Rattle.machine.specs.declared.Next.TheVariants.{Works}
use Rattle.machine.specs.declared.Effect.{Effect}
use Rattle.machine.specs.declared.Effect.TheVariants.{Gives, Acts}
use Rattle.machine.specs.Ops.Vector.{vector_arity, vector_effect}
use Rattle.machine.specs.Ops.Frame.{frame_arity, frame_effect}
use Rattle.machine.specs.Ops.Call.{call_effect}
use Rattle.machine.specs.Ops.Stack.{stack_arity, stack_effect}
use Rattle.machine.specs.Ops.Control.{body_arity, body_effect}
use Rattle.machine.specs.Ops.Test.{test_arity, test_effect}
use Rattle.machine.specs.Ops.Arith.{arith_arity, arith_effect}

pub record Numbered : Type 0 where
  pub number : ℕ
  pub op : Op

infix 90 ◌is◌
abbrev ◌is◌ : ℕ → Op → Numbered
◌is◌ n o = record { number = n; op = o }

unfoldable pub operators : List Numbered
operators =
    17 is OnVectors Get ∷ 282 is OnVectors MakeVecLu ∷ 283 is OnVectors MakeVec ∷ 285 is OnVectors Shape
    ∷ 20 is OnFrame Fget ∷ 21 is OnFrame Fset
    ∷ 231 is Calls Do ∷ 232 is Calls DoSave ∷ 233 is Calls DoSaveAll
    ∷ 180 is OnStack Pop ∷ 183 is OnStack Copy ∷ 181 is OnStack Dup ∷ 184 is OnStack Roll ∷ 185 is OnStack Exch
    ∷ 186 is OnStack Mark ∷ 187 is OnStack Unmark ∷ 192 is OnStack Unmark0 ∷ 188 is OnStack Count ∷ 1 is OnStack Nop ∷ 600 is OnStack Error
    ∷ 205 is Tests Eq ∷ 208 is Tests Gt ∷ 207 is Tests Ge ∷ 202 is Tests And ∷ 213 is Tests Or ∷ 212 is Tests Not ∷ 220 is Tests TypeOf
    ∷ 201 is Reckons Add ∷ 214 is Reckons Sub ∷ 211 is Reckons Neg ∷ 200 is Reckons Abs
    ∷ 206 is Reckons Floor ∷ 203 is Reckons Ceiling ∷ 215 is Reckons Trunc ∷ 217 is Reckons Round
    ∷ 210 is Reckons Mul ∷ 204 is Reckons Div ∷ 209 is Reckons Mod ∷ 216 is Reckons Rem
    ∷ []

unfoldable pub op_in : List Numbered → ℕ → Op
op_in [] n = Unknown
op_in (o ∷ os) n = cond (eqb n o.number) o.op (op_in os n)

unfoldable pub op_of : ℕ → Op
op_of n = op_in operators n

-- 114, 120, 239, 241; IFCOPY (240) and CORRECT (110) pass over their body (R15)
unfoldable pub body_op_of : ℕ → BodyOp
body_op_of n = cond (eqb n 114) MakeSimpleCo (cond (eqb n 120) DoSaveSimpleBody (cond (eqb n 239) If (cond (eqb n 241) IfElse PassOver)))

-- ---- a literal: how many values it pops first, and its effect on them

unfoldable pub arity_of : Op → ℕ
arity_of (OnVectors o) = vector_arity o
arity_of (OnFrame o) = frame_arity o
arity_of (Calls o) = 1
arity_of (OnStack o) = stack_arity o
arity_of (Tests o) = test_arity o
arity_of (Reckons o) = arith_arity o
arity_of Unknown = 0

unfoldable pub effect_of : Op → Value → Value → Option Effect
effect_of (OnVectors o) x y = vector_effect o x y
effect_of (OnFrame o) x y = frame_effect o x
effect_of (Calls o) x y = call_effect o x
effect_of (OnStack o) x y = stack_effect o x y
effect_of (Tests o) x y = test_effect o x y
effect_of (Reckons o) x y = arith_effect o x y
effect_of Unknown x y = None

unfoldable pub popped : Literal → ℕ
popped (Figure a) = 0
popped (Name start len) = 0
popped (Text start) = 0
popped (Plain n) = arity_of (op_of n)
popped (WithBody n start len) = body_arity (body_op_of n)

unfoldable pub performed : Literal → Value → Value → Option Effect
performed (Figure a) x y = Some (Gives a)
performed (Name start len) x y = Some (Acts (Works (Utter start len)))
performed (Text start) x y = Some (Acts (Works (Spell start)))
performed (Plain n) x y = effect_of (op_of n) x y
performed (WithBody n start len) x y = body_effect (body_op_of n) start len x
