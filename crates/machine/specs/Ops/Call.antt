-- 2.4.5, the operators that run a composed operator (01: "DOSAVE and DOSAVEALL act as DO"). Assumes nothing.
use Rattle.std.specs.Prelude.{Option, Some}
use Rattle.machine.specs.declared.Value.{Value}
use Rattle.machine.specs.declared.CallOp.{CallOp}
use Rattle.machine.specs.declared.CallOp.TheVariants.{Do, DoSave, DoSaveAll}
use Rattle.machine.specs.declared.Next.TheVariants.{Call}
use Rattle.machine.specs.declared.Effect.{Effect}
use Rattle.machine.specs.declared.Effect.TheVariants.{Acts}
use Rattle.machine.specs.Operand.{as_operator}

unfoldable pub called : Value → Option Effect
called x = as_operator x (λ origin start len first. Some (Acts (Call origin start len first)))

-- <o> DO →
unfoldable pub call_effect : CallOp → Value → Option Effect
call_effect Do x = called x
call_effect DoSave x = called x
call_effect DoSaveAll x = called x
