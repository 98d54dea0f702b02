use Prim.Native.Nat.{ℕ, ◌+◌, ◌-◌}
use lib.ListN.{length}
use mathlib.Core.List.{List}
use Rattle.tokens.specs.Joined.{joined_at}
use Rattle.names.proofs.Letters.{Reached}
use Rattle.names.proofs.letter.Given as goal

abbrev pub invariant-loop-piece : goal.invariant-loop-piece
invariant-loop-piece l = (k : ℕ) × (d : List ℕ) × Reached (joined_at l.b l.at) l.b l.i k l.piece.start l.piece.len l.left d

abbrev pub decreases-loop-piece : goal.decreases-loop-piece
decreases-loop-piece l = length l.b - (l.piece.start + l.piece.len)
