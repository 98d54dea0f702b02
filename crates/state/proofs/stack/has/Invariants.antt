use mathlib.Core.Path.{◌≡◌}
use Prim.Native.Nat.{◌-◌}
use lib.ListN.{length}
use lib.Dec.{leb}
use Rattle.table.specs.Slots.{slots}
use Rattle.machine.specs.Contexts.{above}
use Rattle.state.specs.Layout.{stack_of}
use Rattle.state.proofs.stack.has.Given as goal

abbrev pub invariant-loop-i : goal.invariant-loop-i
invariant-loop-i l = leb (l.n - l.i) (length (above (stack_of (slots l.w) (l.height - l.i)))) ≡ leb l.n (length (above (stack_of (slots l.w) l.height)))
