use Rattle.std.specs.Prelude.{Some}
use Rattle.tokens.specs.Joined.{piece_from}
use Rattle.tokens.proofs.Pieces.{Inside, inside}
use Rattle.passing.proofs.Knowing.{extends_one, extends_more, extends_broken, extends_missing}
use lib.ListN.{length}
use mathlib.Core.Path.{refl, sym, ◌∙◌}
use native.Mathlib.Omega.{arith}
use Rattle.passing.proofs.known.extent.Goals as goal

pub overflow_add-next : goal.overflow_add-next
overflow_add-next c =
    omega (arith, (let w : Inside (length c.args.s.now) c.args.at (Some (piece_from c.in-Some.piece.start c.in-Some.piece.len)) = rw (← c.piece_at.ensures, c.in-Some.is) at (inside c.args.s.now c.args.at) in w.1), c.well_formed)

pub returns-then-not-is_continued_at : goal.returns-then-not-is_continued_at
returns-then-not-is_continued_at c =
    extends_one _ _ _ _ (sym c.piece_at.ensures ∙ c.in-Some.is) (let w : Inside (length c.args.s.now) c.args.at (Some (piece_from c.in-Some.piece.start c.in-Some.piece.len)) = rw (← c.piece_at.ensures, c.in-Some.is) at (inside c.args.s.now c.args.at) in w.1) (sym c.is_continued_at.ensures ∙ c.if-not-is_continued_at.true) _ refl refl

pub gather-requires : goal.gather-requires
gather-requires c =
    (let w : Inside (length c.args.s.now) c.args.at (Some (piece_from c.in-Some.piece.start c.in-Some.piece.len)) = rw (← c.piece_at.ensures, c.in-Some.is) at (inside c.args.s.now c.args.at) in w.1)

pub returns-in-Ok : goal.returns-in-Ok
returns-in-Ok c =
    extends_more _ _ _ _ (sym c.piece_at.ensures ∙ c.in-Some.is) 31 _ _ _ c.gather.ensures.0 c.in-Ok.is _ refl refl

pub returns-in-Err : goal.returns-in-Err
returns-in-Err c =
    extends_broken _ _ _ _ (sym c.piece_at.ensures ∙ c.in-Some.is) 31 _ _ c.gather.ensures.0 c.in-Err.is _

pub returns-in_default : goal.returns-in_default
returns-in_default c = extends_missing _ _ (sym c.piece_at.ensures ∙ c.in_default.is) _
