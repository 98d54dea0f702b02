use mathlib.Core.Path.{◌≡◌}
use Prim.Native.Nat.{◌*◌}
use lib.ListN.{length}
use Rattle.table.proofs.Runs.{moved}
use Rattle.table.proofs.slots.copy_long.Given as goal

abbrev pub invariant-loop-i : goal.invariant-loop-i
invariant-loop-i l = (length l.w ≡ length l.initial.w) × (l.w ≡ moved l.initial.w (20 * l.s) (20 * l.d) l.i)
