-- 2.4.5 and 2.4.7: operators that hold a body, of which the start and the length are given. IFELSE leaves 1 if its body is not run, and 0
-- after it if it is (R19). Assumes nothing.
use Rattle.std.specs.Prelude.{ℕ, false, true, cond, eqb, Option, Some}
use Rattle.machine.specs.declared.Value.{Value}
use Rattle.machine.specs.declared.BodyOp.{BodyOp}
use Rattle.machine.specs.declared.BodyOp.TheVariants.{MakeSimpleCo, DoSaveSimpleBody, If, IfElse, PassOver}
use Rattle.machine.specs.declared.Work.TheVariants.{Nothing, Compose}
use Rattle.machine.specs.declared.Next.TheVariants.{Works, Inline}
use Rattle.machine.specs.declared.Effect.{Effect}
use Rattle.machine.specs.declared.Effect.TheVariants.{Gives, Acts}
use Rattle.machine.specs.Operand.{as_cardinal, natural}

unfoldable pub body_arity : BodyOp → ℕ
body_arity MakeSimpleCo = 0
body_arity DoSaveSimpleBody = 0
body_arity If = 1
body_arity IfElse = 1
body_arity PassOver = 0

unfoldable pub body_effect : BodyOp → ℕ → ℕ → Value → Option Effect
body_effect MakeSimpleCo start len x = Some (Acts (Works (Compose start len)))
body_effect DoSaveSimpleBody start len x = Some (Acts (Inline start len false))
body_effect If start len x = as_cardinal x (λ i. cond (eqb i 0) (Some (Acts (Works Nothing))) (Some (Acts (Inline start len false))))
body_effect IfElse start len x = as_cardinal x (λ i. cond (eqb i 0) (Some (Gives (natural 1))) (Some (Acts (Inline start len true))))
body_effect PassOver start len x = Some (Acts (Works Nothing))
