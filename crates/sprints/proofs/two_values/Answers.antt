-- `two_values` meets its contract. Assumes nothing.
use Rattle.sprints.proofs.Swiftly.{is_and, is_eq, is_ge, is_gt, is_or}
use Rattle.sprints.proofs.two_values.Goals as goal

pub returns-in-202 : goal.returns-in-202
returns-in-202 c = is_and _ c.in-202.is

pub returns-in-205 : goal.returns-in-205
returns-in-205 c = is_eq _ c.in-205.is

pub returns-in-207 : goal.returns-in-207
returns-in-207 c = is_ge _ c.in-207.is

pub returns-in-208 : goal.returns-in-208
returns-in-208 c = is_gt _ c.in-208.is

pub returns-in_default : goal.returns-in_default
returns-in_default c =
    is_or _ c.requires c.in_default.in_default-own.rest.0.0.0.1 c.in_default.in_default-own.rest.0.0.1 c.in_default.in_default-own.rest.0.1 c.in_default.in_default-own.rest.1
