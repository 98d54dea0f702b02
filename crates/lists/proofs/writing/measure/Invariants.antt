use Rattle.std.proofs.Common.{◌-◌, length}
use Rattle.lists.proofs.Passes.{Measuring}
use Rattle.lists.proofs.writing.measure.Given as goal

abbrev pub invariant-loop-at : goal.invariant-loop-at
invariant-loop-at l = Measuring l.list l.text l.at l.total

abbrev pub decreases-loop-at : goal.decreases-loop-at
decreases-loop-at l = length l.list - l.at
