use mathlib.Core.Path.{◌≡◌}
use Prim.Native.Nat.{ℕ, ◌-◌}
use lib.ListN.{length}
use mathlib.Core.List.{List}
use Rattle.table.specs.Slots.{slots}
use Rattle.tokens.specs.Joined.{continuations}
use Rattle.tokens.proofs.Copying.{Copied}
use Rattle.state.specs.Operations.{letter_slots}
use Rattle.store.proofs.letters.put_pieces.Given as goal

abbrev pub invariant-loop-at : goal.invariant-loop-at
invariant-loop-at l = (length l.w ≡ length l.initial.w) × (n : ℕ) × (d : List ℕ) × Copied letter_slots (continuations l.b l.start) l.b (slots l.initial.w) (slots l.w) l.k n l.at l.q d

abbrev pub decreases-loop-at : goal.decreases-loop-at
decreases-loop-at l = length l.b - l.at
