-- `pass_sequence` meets its contract: one piece that is sound, or the token as it is read. Assumes nothing.
use Rattle.std.specs.Prelude.{Ok, Some}
use Rattle.tokens.specs.Joined.{piece_from}
use Rattle.tokens.specs.Passing.{pass_of}
use Rattle.tokens.proofs.OnePiece.{one_piece}
use Rattle.tokens.proofs.Pieces.{Inside, inside}
use lib.ListN.{length}
use Rattle.std.proofs.lemmas.Slice.{between_is}
use Prim.Native.Nat.{ℕ, ◌+◌}
use native.Mathlib.Omega.{arith}
use mathlib.Core.Path.{sym, ap, ◌∙◌}
use Rattle.std.proofs.lemmas.Result.{err_from_is_err_and}
use Rattle.passing.proofs.pass_sequence.Goals as goal

pub overflow_add-next : goal.overflow_add-next
overflow_add-next c =
    let a = c.args in
    let w : Inside (length a.s.now) a.at (Some (piece_from c.in-Some.piece.start c.in-Some.piece.len)) = rw (← c.piece_at.ensures, c.in-Some.is) at (inside a.s.now a.at) in
    omega (arith, w.1, c.well_formed)

pub slice_bounds-is_sound-end : goal.slice_bounds-is_sound-end
slice_bounds-is_sound-end c =
    let a = c.args in
    let w : Inside (length a.s.now) a.at (Some (piece_from c.in-Some.piece.start c.in-Some.piece.len)) = rw (← c.piece_at.ensures, c.in-Some.is) at (inside a.s.now a.at) in
    w.1

pub returns-then-is_sound : goal.returns-then-is_sound
returns-then-is_sound c =
    let a = c.args in
    let p = one_piece a.s.now a.at (omega arith) (omega arith) _ _ (sym c.piece_at.ensures ∙ c.in-Some.is) (sym c.is_continued_at.ensures ∙ c.if-not-is_continued_at.true) in
    let f : ℕ = c.in-Some.piece.start in
    let n : ℕ = c.in-Some.piece.len in
    sym (ap pass_of p ∙ rw (c.low5.ensures, between_is a.s.now f (f + n)) at (c.is_sound.ensures c.if-is_sound.true a.at (f + n)))

pub returns-in_err-read_token : goal.returns-in_err-read_token
unfolding pass_of
returns-in_err-read_token c =
    let p = err_from_is_err_and c.from_residual.result c.from_residual.ensures.1 in
    rw (p.1, p.2) (ap pass_of (sym c.in_err-read_token.was ∙ c.read_token.ensures))

pub returns : goal.returns
unfolding pass_of
returns c = ap Ok c.next_place.ensures ∙ ap pass_of (sym c.in_ok-read_token.was ∙ c.read_token.ensures)
