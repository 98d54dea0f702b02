-- `arithmetic::remainder` meets its contract: what the quotient toward zero leaves is the rest that is asked for. Assumes nothing.
use mathlib.Core.Path.{◌∙◌}
use Rattle.numbers.specs.Arith.{rem_of}
use Rattle.arithmetic.proofs.remainder.Goals as goal

pub over_common-requires : goal.over_common-requires
over_common-requires c = tt

pub over_common-requires-2 : goal.over_common-requires-2
over_common-requires-2 c = tt

pub rest_of_trunc-requires : goal.rest_of_trunc-requires
rest_of_trunc-requires c = tt

pub rest_over-requires : goal.rest_over-requires
rest_over-requires c = tt

pub returns : goal.returns
unfolding rem_of
returns c =
    c.rest_over.ensures _ (c.rest_of_trunc.ensures ∙ rw (c.over_common.ensures.0, c.over_common-2.ensures.0))
