-- 2.4.3, without the property vectors. x is the topmost value, y the next. Assumes nothing.
use Rattle.std.specs.Prelude.{ℕ, ◌+◌, ◌-◌, ◌&&◌, leb, ltb, Option, Some}
use Rattle.machine.specs.declared.Value.{Value}
use Rattle.machine.specs.declared.VectorOp.{VectorOp}
use Rattle.machine.specs.declared.VectorOp.TheVariants.{Get, MakeVecLu, MakeVec, Shape}
use Rattle.machine.specs.declared.Work.TheVariants.{Element, Build}
use Rattle.machine.specs.declared.Next.TheVariants.{Works}
use Rattle.machine.specs.declared.Effect.{Effect}
use Rattle.machine.specs.declared.Effect.TheVariants.{Gives2, Acts}
use Rattle.machine.specs.Operand.{as_cardinal, as_vector, natural, only_if}

unfoldable pub vector_arity : VectorOp → ℕ
vector_arity Get = 2
vector_arity MakeVecLu = 2
vector_arity MakeVec = 1
vector_arity Shape = 1

-- <v> <j> GET → <x>: "unless l ≤ j ≤ u"
-- <x1> .. <xn> <l> <u> MAKEVECLU → <v>: n = u - l + 1, at least 0 (R28)
-- <x1> .. <xn> <n> MAKEVEC → <v>
-- <v> SHAPE → <l> <n>
unfoldable pub vector_effect : VectorOp → Value → Value → Option Effect
vector_effect Get x y = as_cardinal x (λ j. as_vector y (λ first lower count. only_if (leb lower j && ltb j (lower + count)) (Some (Acts (Works (Element (first + (j - lower))))))))
vector_effect MakeVecLu x y = as_cardinal x (λ u. as_cardinal y (λ l. only_if (leb l (u + 1)) (Some (Acts (Works (Build l (u + 1 - l)))))))
vector_effect MakeVec x y = as_cardinal x (λ n. Some (Acts (Works (Build 0 n))))
vector_effect Shape x y = as_vector x (λ first lower count. Some (Gives2 (natural lower) (natural count)))
