use mathlib.Core.Path.{◌≡◌}
use lib.ListN.{length}
use Rattle.table.specs.Slots.{slots, copied}
use Rattle.table.proofs.slots.copy.Given as goal

abbrev pub invariant-loop-i : goal.invariant-loop-i
invariant-loop-i l = (length l.w ≡ length l.initial.w) × (slots l.w ≡ copied (slots l.initial.w) l.s l.d l.i)
