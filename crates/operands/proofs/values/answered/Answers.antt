-- `operands::answered` meets its contract. Assumes nothing.
use mathlib.Core.Path.{sym, ap}
use Rattle.machine.specs.Operand.{answered}
use Rattle.operands.proofs.values.answered.Goals as goal

pub returns-in-Ok : goal.returns-in-Ok
unfolding answered
returns-in-Ok c = (ap answered (sym c.in-Ok.is), tt)

pub returns-in-Err : goal.returns-in-Err
unfolding answered
returns-in-Err c = (ap answered (sym c.in-Err.is), tt)
