-- `arithmetic::ceiling` meets its contract: minus the floor of -a, each step by its contract. Assumes nothing.
use mathlib.Core.Path.{◌∙◌}
use native.Mathlib.Omega.{arith}
use Rattle.numbers.specs.Whole.{floor_quotient, signed_by}
use Rattle.numbers.specs.Arith.{ceiling_of}
use Rattle.arithmetic.proofs.ceiling.Goals as goal

pub overflow_cast-den : goal.overflow_cast-den
overflow_cast-den c = omega arith

pub numerator-requires : goal.numerator-requires
numerator-requires c = tt

pub negated-requires : goal.negated-requires
negated-requires c = tt

pub rounded_down-down-requires : goal.rounded_down-down-requires
rounded_down-down-requires c = tt

pub negated-requires-2 : goal.negated-requires-2
negated-requires-2 c = tt

pub whole_from-requires : goal.whole_from-requires
whole_from-requires c = tt

pub returns : goal.returns
unfolding ceiling_of floor_quotient signed_by
returns c =
    c.whole_from.ensures ∙ rw (c.negated-2.ensures.0, c.rounded_down-down.ensures, c.negated.ensures.0, c.numerator.ensures.0)
