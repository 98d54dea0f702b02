use mathlib.Core.Path.{◌≡◌}
use lib.ListN.{length}
use Rattle.table.specs.Slots.{slots}
use Rattle.state.specs.Operations.{filled}
use Rattle.contexts.proofs.frames.fill.Given as goal

abbrev pub invariant-loop-i : goal.invariant-loop-i
invariant-loop-i l = (length l.w ≡ length l.initial.w) × (slots l.w ≡ filled (slots l.initial.w) l.b l.i)
