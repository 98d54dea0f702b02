use Rattle.std.proofs.Common.{◌-◌, length}
use Rattle.lists.proofs.Passes.{Putting}
use Rattle.lists.proofs.writing.put_all.Given as goal

abbrev pub invariant-loop-at : goal.invariant-loop-at
invariant-loop-at l = Putting l.list l.text l.initial.out l.out l.at l.o

abbrev pub decreases-loop-at : goal.decreases-loop-at
decreases-loop-at l = length l.list - l.at
