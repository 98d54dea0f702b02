use lib.ListN.{length}
use Rattle.tokens.specs.Inner.{summary_of, Fitting}
use Rattle.tokens.specs.Joined.{joined_from}
use lib.Seq.{slice}
use mathlib.Core.List.{List}
use Prim.Native.Nat.{ℕ, ◌+◌, ◌-◌, ◌≤◌}
use mathlib.Core.Path.{◌≡◌}
use Rattle.pieces.proofs.sequences.gather.Given as goal

abbrev pub invariant-loop-at : goal.invariant-loop-at
invariant-loop-at l = (j : ℕ) × (d : List ℕ) × (l.sum ≡ summary_of l.k d) × Fitting l.sum × (l.sum.len ≤ l.at) × (l.at ≤ length l.s) × (length l.s ≤ l.at + j) × (joined_from j l.s l.at d ≡ joined_from (length l.s) l.s (l.fn.own.start + l.fn.own.len) (slice l.fn.own.start (l.fn.own.start + l.fn.own.len) l.s))

abbrev pub decreases-loop-at : goal.decreases-loop-at
decreases-loop-at l = length l.s - l.at
