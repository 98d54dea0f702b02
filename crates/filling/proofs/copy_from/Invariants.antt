use mathlib.Core.List.{List}
use Prim.Native.Nat.{ℕ, ◌-◌}
use lib.ListN.{length}
use Rattle.tokens.specs.Joined.{continuations}
use Rattle.tokens.proofs.Copying.{Copied}
use Rattle.filling.specs.Filling.{shown}
use Rattle.filling.proofs.copy_from.Given as goal

abbrev pub invariant-loop-at : goal.invariant-loop-at
invariant-loop-at l = (k : ℕ) × (d : List ℕ) × Copied (shown l.lower) (continuations l.s l.start) l.s l.initial.text l.text l.o k l.at l.q d

abbrev pub decreases-loop-at : goal.decreases-loop-at
decreases-loop-at l = length l.s - l.at
