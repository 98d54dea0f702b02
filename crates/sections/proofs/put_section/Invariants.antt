use mathlib.Core.Path.{◌≡◌}
use Prim.Native.Nat.{◌+◌}
use lib.ListN.{length}
use lib.Seq.{sets}
use Rattle.table.specs.Slots.{slots}
use Rattle.state.specs.Operations.{shown_from}
use Rattle.sections.proofs.Showing.{entries_bytes}
use Rattle.sections.proofs.put_section.Given as goal

abbrev pub invariant-loop-i : goal.invariant-loop-i
invariant-loop-i l = (length l.t ≡ length l.initial.t) × (l.t ≡ sets l.initial.t (l.p + 4) (entries_bytes (shown_from l.marks (slots l.w) l.first l.i)))
