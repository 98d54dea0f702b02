-- Gathering joined data, a continued token at a turn. Assumes nothing.
use Rattle.std.specs.Prelude.{Ok, Err, Some, None}
use Rattle.tokens.specs.Refusal.{refusal_at}
use Rattle.tokens.specs.Joined.{piece_from}
use Rattle.tokens.specs.Inner.{gathered}
use Rattle.tokens.specs.declared.Refusal.TheVariants.{CutOff}
use mathlib.Core.Path.{◌≡◌}
use mathlib.Core.Bool.{true, false, cond}
use mathlib.Core.List.{List, ◌++◌}
use Prim.Native.Nat.{ℕ, zero, suc, ◌+◌, ◌-◌, ◌≤◌}
use native.Mathlib.Omega.{arith}
use lib.ListN.{length, get_or, get_or-eq_default}
use lib.Seq.{slice}
use Rattle.tokens.specs.declared.Summary.{Summary}
use Rattle.tokens.specs.Joined.{Joined, whole, cut_at, piece_at, continued, on_piece, joined_from}
use Rattle.tokens.specs.Inner.{summary_of, gathered_of}

-- past the end of the input nothing continues
pub at_end_lem : (s : List ℕ) (at : ℕ) → length s ≤ at → continued (get_or s at 0) ≡ false
at_end_lem s at h = rw (get_or-eq_default s 0 {n = at} h)

-- one turn, with room for k tokens where that is enough for what is left
pub turn : (k : ℕ) (s : List ℕ) (at : ℕ) (d : List ℕ) → length s ≤ at + k →
    joined_from k s at d ≡ cond (continued (get_or s at 0)) (on_piece (piece_at s at) (cut_at at) (λ f n. joined_from (k - 1) s (f + n) (d ++ slice f (f + n) s))) (whole d at)
unfolding joined_from
turn zero s at d h = rw (at_end_lem s at (omega arith))
turn (suc k) s at d h = let e : suc k - 1 ≡ k = omega arith in rw e

module _ (t : ℕ) (J : Joined) (k : ℕ) (s : List ℕ) (at : ℕ) (d : List ℕ) (room : length s ≤ at + k) (e : joined_from k s at d ≡ J) where
  pub ended : (g : Summary) → g ≡ summary_of t d → continued (get_or s at 0) ≡ false → Ok (gathered g at) ≡ gathered_of t J
  unfolding gathered_of
  ended g f h = rw (← e, turn k s at d room, h, f)

  pub broken : continued (get_or s at 0) ≡ true → piece_at s at ≡ None → Err (refusal_at CutOff at) ≡ gathered_of t J
  unfolding gathered_of on_piece
  broken h p = rw (← e, turn k s at d room, h, p)

  pub went : (f n : ℕ) → continued (get_or s at 0) ≡ true → piece_at s at ≡ Some (piece_from f n) → joined_from (k - 1) s (f + n) (d ++ slice f (f + n) s) ≡ J
  unfolding on_piece
  went f n h p = rw (turn k s at d room, h, p) at e
