use mathlib.Core.Path.{◌≡◌}
use Prim.Native.Nat.{◌<◌}
use lib.ListN.{length}
use Rattle.machine.specs.Contexts.{settle}
use Rattle.state.specs.Layout.{Good, abs, aside}
use Rattle.recovery.proofs.ends.settle.Given as goal

abbrev pub invariant-loop-r : goal.invariant-loop-r
invariant-loop-r l = Good l.w l.r × (l.r.errors < l.r.steps) × (length l.w ≡ length l.initial.w) × (aside l.w ≡ aside l.initial.w) × (l.r.steps ≡ l.initial.r.steps) × (settle (abs l.w l.r) ≡ settle (abs l.initial.w l.initial.r))

abbrev pub decreases-loop-r : goal.decreases-loop-r
decreases-loop-r l = l.r.depth
