use Prim.Native.Nat.{◌-◌}
use lib.ListN.{length}
use Rattle.nesting.proofs.BodyTurns.{Kept}
use Rattle.nesting.proofs.bodies.+body_literals.Given as goal

abbrev pub decreases-body : goal.decreases-body
decreases-body l = length l.s.now - l.at

abbrev pub decreases-literals : goal.decreases-literals
decreases-literals l = length l.s.now - l.at

abbrev pub invariant-literals-loop-form : goal.invariant-literals-loop-form
invariant-literals-loop-form l = Kept l.left l.s l.at l.p

abbrev pub decreases-literals-loop-form : goal.decreases-literals-loop-form
decreases-literals-loop-form l = length l.s - l.p
