-- `operands::whether` meets its contract. Assumes nothing.
use Rattle.operands.proofs.Reading.{whether_lem}
use Rattle.operands.proofs.values.whether.Goals as goal

pub returns : goal.returns
returns c = (whether_lem c.args.b c.from.ensures c.natural.ensures, tt)
