use mathlib.Core.Path.{◌≡◌}
use Prim.Native.Nat.{◌≤◌}
use Rattle.table.specs.Slots.{slots}
use Rattle.machine.specs.Contexts.{recover}
use Rattle.state.specs.Layout.{contexts_of, stack_of}
use Rattle.recovery.proofs.ends.landing.Given as goal

abbrev pub invariant-loop-height : goal.invariant-loop-height
invariant-loop-height l = (l.height ≤ l.high) × (l.depth ≤ l.deep) × (recover (stack_of (slots l.w) l.height) (contexts_of (slots l.w) l.depth) ≡ recover (stack_of (slots l.w) l.high) (contexts_of (slots l.w) l.deep))

abbrev pub decreases-loop-height : goal.decreases-loop-height
decreases-loop-height l = l.height
