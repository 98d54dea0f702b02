use Rattle.state.specs.Layout.{Good, abs, aside}
use Rattle.names.specs.Names.{both}
use Rattle.machine.specs.Step.{run}
use Prim.Native.Nat.{◌+◌, ◌-◌, ◌≤◌}
use lib.ListN.{length}
use mathlib.Core.Bool.{true}
use mathlib.Core.Path.{◌≡◌}
use Rattle.engine.proofs.steps.pass.Given as goal

abbrev pub invariant-loop-left : goal.invariant-loop-left
invariant-loop-left l = Good l.w l.r × (l.r.depth ≡ l.depth) × (l.r.skipping ≡ true) × (length l.w ≡ length l.initial.w) × (l.r.steps + l.left ≡ l.initial.r.steps + l.most) × (l.left ≤ l.most) × (aside l.w ≡ aside l.initial.w) × (run (l.most - l.left) (both l.pre l.body) (abs l.initial.w l.initial.r) ≡ abs l.w l.r)

abbrev pub decreases-loop-left : goal.decreases-loop-left
decreases-loop-left l = l.left
