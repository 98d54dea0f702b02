-- `arithmetic::negative` meets its contract: the steps' contracts, put into one another. Assumes nothing.
use mathlib.Core.Path.{◌∙◌}
use Rattle.numbers.specs.Arith.{negative_of}
use Rattle.arithmetic.proofs.negative.Goals as goal

pub numerator-requires : goal.numerator-requires
numerator-requires c = tt

pub negated-requires : goal.negated-requires
negated-requires c = tt

pub denominator-requires : goal.denominator-requires
denominator-requires c = tt

pub ratio_of-requires : goal.ratio_of-requires
ratio_of-requires c = tt

pub returns : goal.returns
unfolding negative_of
returns c = c.ratio_of.ensures ∙ rw (c.negated.ensures.0, c.numerator.ensures.0, c.denominator.ensures.0)
