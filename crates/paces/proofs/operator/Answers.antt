-- `operator` meets its contract. Assumes nothing.
use Rattle.sprints.proofs.Swiftly.{is_unmark}
use Rattle.paces.proofs.operator.Goals as goal

pub returns-in-192 : goal.returns-in-192
returns-in-192 c = is_unmark _ _ _ c.in-192.is c.remove.ensures
