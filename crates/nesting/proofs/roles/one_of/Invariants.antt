use mathlib.Core.Path.{◌≡◌}
use lib.ListN.{drop}
use Rattle.machine.specs.Skeleton.{one_of}
use Rattle.nesting.proofs.roles.one_of.Given as goal

abbrev pub invariant-loop-x : goal.invariant-loop-x
invariant-loop-x l = one_of (drop l.x-index l.list) l.n ≡ one_of l.list l.n
