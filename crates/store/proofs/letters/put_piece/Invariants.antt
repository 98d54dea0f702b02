use mathlib.Core.Path.{◌≡◌}
use Prim.Native.Nat.{◌+◌}
use lib.ListN.{length}
use lib.Seq.{sets, slice}
use Rattle.table.specs.Slots.{slots}
use Rattle.state.specs.Operations.{letter_slots}
use Rattle.store.proofs.letters.put_piece.Given as goal

abbrev pub invariant-loop-i : goal.invariant-loop-i
invariant-loop-i l = (length l.w ≡ length l.initial.w) × (sets (slots l.w) (l.k + l.i) (letter_slots (slice l.i (length l.part) l.part)) ≡ sets (slots l.initial.w) l.k (letter_slots l.part))
