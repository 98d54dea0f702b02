-- 2.4.6. DUP is "x 1 COPY" and EXCH "x y 2 1 ROLL". Assumes nothing.
use Rattle.std.specs.Prelude.{ℕ, Bool, ◌||◌, leb, eqb, Option, Some}
use Rattle.machine.specs.declared.Value.{Value}
use Rattle.machine.specs.declared.StackOp.{StackOp}
use Rattle.machine.specs.declared.StackOp.TheVariants.{Pop, Copy, Dup, Roll, Exch, Mark, Unmark, Unmark0, Count, Nop, Error}
use Rattle.machine.specs.declared.Work.TheVariants.{Nothing, Repeat, Turn, Report}
use Rattle.machine.specs.declared.Next.TheVariants.{Works, Place, Remove, Tally}
use Rattle.machine.specs.declared.Effect.{Effect}
use Rattle.machine.specs.declared.Effect.TheVariants.{Acts}
use Rattle.machine.specs.Operand.{as_cardinal, as_vector, only_if}

unfoldable pub stack_arity : StackOp → ℕ
stack_arity Pop = 1
stack_arity Copy = 1
stack_arity Dup = 0
stack_arity Roll = 2
stack_arity Exch = 0
stack_arity Mark = 1
stack_arity Unmark = 1
stack_arity Unmark0 = 0
stack_arity Count = 0
stack_arity Nop = 0
stack_arity Error = 2

-- the codes of ERROR that are no master error (R17)
unfoldable pub mild_code : ℕ → Bool
mild_code n = eqb n 10 || (eqb n 50 || (eqb n 60 || eqb n 100))

unfoldable pub stack_effect : StackOp → Value → Value → Option Effect
stack_effect Pop x y = Some (Acts (Works Nothing))
stack_effect Copy x y = as_cardinal x (λ n. Some (Acts (Works (Repeat n))))
stack_effect Dup x y = Some (Acts (Works (Repeat 1)))
stack_effect Roll x y = as_cardinal x (λ m. as_cardinal y (λ n. only_if (leb m n) (Some (Acts (Works (Turn n m))))))
stack_effect Exch x y = Some (Acts (Works (Turn 2 1)))
stack_effect Mark x y = as_cardinal x (λ n. Some (Acts (Place n)))
stack_effect Unmark x y = as_cardinal x (λ n. Some (Acts (Remove n)))
stack_effect Unmark0 x y = Some (Acts (Remove 0))
stack_effect Count x y = Some (Acts Tally)
stack_effect Nop x y = Some (Acts (Works Nothing))
stack_effect Error x y = as_cardinal x (λ n. as_vector y (λ first lower count. only_if (mild_code n) (Some (Acts (Works (Report y))))))
