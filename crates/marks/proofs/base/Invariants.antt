use Rattle.state.specs.Layout.{stack_of}
use Rattle.machine.specs.Contexts.{above}
use Rattle.table.specs.Slots.{slots}
use lib.ListN.{length}
use Prim.Native.Nat.{◌+◌, ◌-◌, ◌≤◌}
use mathlib.Core.Path.{◌≡◌}
use Rattle.marks.proofs.base.Given as goal

abbrev pub invariant-loop-i : goal.invariant-loop-i
invariant-loop-i l = (l.i ≤ l.height) × (l.height - l.i + length (above (stack_of (slots l.w) l.i)) ≡ length (above (stack_of (slots l.w) l.height)))

abbrev pub decreases-loop-i : goal.decreases-loop-i
decreases-loop-i l = l.i
