-- `arithmetic::size` meets its contract: the steps' contracts, put into one another. Assumes nothing.
use mathlib.Core.Path.{◌∙◌}
use Rattle.numbers.specs.Arith.{size_of}
use Rattle.arithmetic.proofs.size.Goals as goal

pub numerator-requires : goal.numerator-requires
numerator-requires c = tt

pub natural-requires : goal.natural-requires
natural-requires c = tt

pub denominator-requires : goal.denominator-requires
denominator-requires c = tt

pub ratio_of-requires : goal.ratio_of-requires
ratio_of-requires c = tt

pub returns : goal.returns
unfolding size_of
returns c = c.ratio_of.ensures ∙ rw (c.natural.ensures.0, c.numerator.ensures.2, c.denominator.ensures.0)
