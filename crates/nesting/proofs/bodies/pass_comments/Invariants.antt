use mathlib.Core.Path.{◌≡◌}
use Prim.Native.Nat.{ℕ, ◌+◌, ◌-◌, ◌≤◌}
use lib.ListN.{length}
use Rattle.machine.specs.Skeleton.{solid_from, solid}
use Rattle.nesting.proofs.bodies.pass_comments.Given as goal

abbrev pub invariant-loop-token : goal.invariant-loop-token
invariant-loop-token l = (k : ℕ) × (length l.s ≤ l.p + k) × (solid_from k l.s l.p ≡ solid l.s l.at)

abbrev pub decreases-loop-token : goal.decreases-loop-token
decreases-loop-token l = length l.s - l.p
