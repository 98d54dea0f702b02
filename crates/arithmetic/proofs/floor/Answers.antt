-- `arithmetic::floor` meets its contract: the steps' contracts, put into one another. Assumes nothing.
use mathlib.Core.Path.{◌∙◌}
use native.Mathlib.Omega.{arith}
use Rattle.numbers.specs.Whole.{floor_quotient, signed_by}
use Rattle.numbers.specs.Arith.{floor_of}
use Rattle.arithmetic.proofs.floor.Goals as goal

pub numerator-requires : goal.numerator-requires
numerator-requires c = tt

pub overflow_cast-a : goal.overflow_cast-a
overflow_cast-a c = omega arith

pub rounded_down-requires : goal.rounded_down-requires
rounded_down-requires c = tt

pub whole_from-requires : goal.whole_from-requires
whole_from-requires c = tt

pub returns : goal.returns
unfolding floor_of floor_quotient signed_by
returns c = c.whole_from.ensures ∙ rw (c.rounded_down.ensures, c.numerator.ensures.0)
