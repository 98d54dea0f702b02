-- `arithmetic::modulo` meets its contract: what the floor leaves is the rest that is asked for. Assumes nothing.
use mathlib.Core.Path.{◌∙◌}
use Rattle.numbers.specs.Arith.{mod_of}
use Rattle.arithmetic.proofs.modulo.Goals as goal

pub over_common-requires : goal.over_common-requires
over_common-requires c = tt

pub over_common-requires-2 : goal.over_common-requires-2
over_common-requires-2 c = tt

pub rest_of_floor-requires : goal.rest_of_floor-requires
rest_of_floor-requires c = tt

pub rest_over-requires : goal.rest_over-requires
rest_over-requires c = tt

pub returns : goal.returns
unfolding mod_of
returns c =
    c.rest_over.ensures _ (c.rest_of_floor.ensures ∙ rw (c.over_common.ensures.0, c.over_common-2.ensures.0))
