-- `arithmetic::quotient` meets its contract: the steps' contracts, put into one another. Assumes nothing.
use mathlib.Core.Path.{◌∙◌}
use Rattle.numbers.specs.Arith.{quotient_of}
use Rattle.arithmetic.proofs.quotient.Goals as goal

pub over_common-requires : goal.over_common-requires
over_common-requires c = tt

pub over_common-requires-2 : goal.over_common-requires-2
over_common-requires-2 c = tt

pub ratio_of-requires : goal.ratio_of-requires
ratio_of-requires c = tt

pub returns : goal.returns
unfolding quotient_of
returns c = c.ratio_of.ensures ∙ rw (c.over_common.ensures.0, c.over_common-2.ensures.0)
