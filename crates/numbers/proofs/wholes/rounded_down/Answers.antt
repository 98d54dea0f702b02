-- `numbers::wholes::rounded_down` meets its contract: below zero by the size rounded up. Assumes nothing.
use mathlib.Core.Path.{ap}
use lib.IntN.{pos}
use Rattle.numbers.specs.Whole.{signed, floor_by}
use Rattle.numbers.proofs.wholes.rounded_down.Goals as goal

pub whole_above-requires : goal.whole_above-requires
whole_above-requires c = tt

pub whole_part-requires : goal.whole_part-requires
whole_part-requires c = tt

pub returns-then-n : goal.returns-then-n
unfolding signed
returns-then-n c = rw c.if-n.true c.whole_above.ensures

pub returns-else-n : goal.returns-else-n
unfolding signed floor_by
returns-else-n c = rw c.if-n.false (ap pos c.whole_part.ensures)
