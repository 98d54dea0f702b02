-- `arithmetic::difference` meets its contract: the steps' contracts, put into one another. Assumes nothing.
use mathlib.Core.Path.{◌∙◌}
use native.Mathlib.Omega.{arith}
use Rattle.numbers.specs.Arith.{difference_of}
use Rattle.arithmetic.proofs.difference.Goals as goal

pub over_common-requires : goal.over_common-requires
over_common-requires c = tt

pub over_common-requires-2 : goal.over_common-requires-2
over_common-requires-2 c = tt

pub negated-requires : goal.negated-requires
negated-requires c = tt

pub plus-n-requires : goal.plus-n-requires
plus-n-requires c = omega arith

pub common_of-requires : goal.common_of-requires
common_of-requires c = tt

pub ratio_of-requires : goal.ratio_of-requires
ratio_of-requires c = tt

pub returns : goal.returns
unfolding difference_of
returns c =
    c.ratio_of.ensures ∙ rw (c.plus-n.ensures, c.negated.ensures.0, c.over_common.ensures.0, c.over_common-2.ensures.0, c.common_of.ensures)
