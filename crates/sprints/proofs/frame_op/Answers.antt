-- `frame_op` meets its contract. Assumes nothing.
use Rattle.sprints.proofs.Swiftly.{is_fget, is_fset}
use Rattle.sprints.proofs.frame_op.Goals as goal

pub returns-in-20 : goal.returns-in-20
returns-in-20 c = is_fget _ c.in-20.is

pub returns-in_default : goal.returns-in_default
returns-in_default c = is_fset _ c.requires c.in_default.in_default-own.rest.1
