-- `numbers::lowest::ratio` meets its contract: signs and sizes are the two numbers. Assumes nothing.
use mathlib.Core.Path.{◌∙◌}
use mir.Facts.{to_z-of_z}
use Rattle.numbers.proofs.lowest.ratio.Goals as goal

pub of_signed-requires : goal.of_signed-requires
of_signed-requires c = tt

pub of_signed-requires-2 : goal.of_signed-requires-2
of_signed-requires-2 c = tt

pub ratio_of-requires : goal.ratio_of-requires
ratio_of-requires c = tt

pub returns : goal.returns
returns c =
    c.ratio_of.ensures ∙ rw (c.of_signed-2.ensures.0, c.of_signed.ensures.0, to_z-of_z c.ranges.n, to_z-of_z c.ranges.d)
