-- `two_numbers` meets its contract. Assumes nothing.
use Rattle.sprints.proofs.Swiftly.{is_add, is_div, is_mul, is_sub}
use Rattle.sprints.proofs.two_numbers.Goals as goal

pub returns-in-201 : goal.returns-in-201
returns-in-201 c = is_add _ _ _ _ c.in-201.is c.sum.ensures

pub returns-in-204 : goal.returns-in-204
returns-in-204 c = is_div _ _ _ _ c.in-204.is c.quotient.ensures

pub returns-in-210 : goal.returns-in-210
returns-in-210 c = is_mul _ _ _ _ c.in-210.is c.product.ensures

pub returns-in_default : goal.returns-in_default
returns-in_default c =
    is_sub _ _ _ _ c.requires c.in_default.in_default-own.rest.0.0.1 c.in_default.in_default-own.rest.0.1 c.in_default.in_default-own.rest.1 c.difference.ensures
