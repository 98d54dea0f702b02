use mathlib.Core.Path.{◌≡◌}
use Prim.Native.Nat.{◌≤◌}
use Rattle.table.specs.Slots.{slots}
use Rattle.machine.specs.Contexts.{from}
use Rattle.state.specs.Layout.{contexts_of}
use Rattle.recovery.proofs.ends.find.Given as goal

abbrev pub invariant-loop-i : goal.invariant-loop-i
invariant-loop-i l = (l.i ≤ l.depth) × (from l.k (contexts_of (slots l.w) l.i) ≡ from l.k (contexts_of (slots l.w) l.depth))

abbrev pub decreases-loop-i : goal.decreases-loop-i
decreases-loop-i l = l.i
