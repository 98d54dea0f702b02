use Prim.Native.Nat.{◌-◌}
use lib.ListN.{length}
use Rattle.skeleton.proofs.PageTurns.{Counting}
use Rattle.skeleton.proofs.pages.pages.Given as goal

abbrev pub invariant-loop-next : goal.invariant-loop-next
invariant-loop-next l = Counting l.s l.initial.places l.at l.places l.p l.had

abbrev pub decreases-loop-next : goal.decreases-loop-next
decreases-loop-next l = length l.s - l.p
