use mathlib.Core.Path.{◌≡◌}
use Prim.Native.Nat.{◌-◌, ◌≤◌}
use lib.ListN.{length}
use Rattle.machine.specs.Step.{run}
use Rattle.names.specs.Names.{both}
use Rattle.state.specs.Layout.{abs, aside, Good}
use Rattle.origins.specs.Bodies.{Noting}
use Rattle.machine.proofs.Legible.{Legible}
use Rattle.engine.proofs.steps.run_noting.Given as goal

abbrev pub invariant-loop-r : goal.invariant-loop-r
invariant-loop-r l = Good l.w l.r × (length l.w ≡ length l.initial.w) × (l.r.steps ≤ l.last) × (aside l.w ≡ aside l.initial.w) × (run (l.last - l.r.steps) (both l.pre l.body) (abs l.w l.r) ≡ run l.allowance (both l.pre l.body) (abs l.initial.w l.initial.r)) × Noting l.pre l.body l.early l.notes × (length l.early ≡ length l.initial.early) × (length l.notes ≡ length l.initial.notes) × Legible (both l.pre l.body) (abs l.w l.r)

abbrev pub decreases-loop-r : goal.decreases-loop-r
decreases-loop-r l = l.last - l.r.steps
