-- `call::called` meets its contract. Assumes nothing.
use Rattle.machine.specs.Ops.Call.{called}
use Rattle.operands.proofs.Reading.{no_operator, is_operator}
use Rattle.operators.proofs.call.called.Goals as goal

pub returns-in_default : goal.returns-in_default
unfolding called
returns-in_default c = (no_operator c.args.x _ c.in_default.not-Operator, tt)

pub returns : goal.returns
unfolding called
returns c = (is_operator _ c.in-Operator.is, tt)
