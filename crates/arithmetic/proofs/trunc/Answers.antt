-- `arithmetic::trunc` meets its contract: the steps' contracts, put into one another. Assumes nothing.
use mathlib.Core.Path.{◌∙◌}
use native.Mathlib.Omega.{arith}
use Rattle.numbers.specs.Whole.{trunc_quotient, signed_by}
use Rattle.numbers.specs.Arith.{trunc_of}
use Rattle.arithmetic.proofs.trunc.Goals as goal

pub overflow_cast-den : goal.overflow_cast-den
overflow_cast-den c = omega arith

pub numerator-requires : goal.numerator-requires
numerator-requires c = tt

pub cut_off-requires : goal.cut_off-requires
cut_off-requires c = tt

pub whole_from-requires : goal.whole_from-requires
whole_from-requires c = tt

pub returns : goal.returns
unfolding trunc_of trunc_quotient signed_by
returns c = c.whole_from.ensures ∙ rw (c.cut_off.ensures, c.numerator.ensures.0)
