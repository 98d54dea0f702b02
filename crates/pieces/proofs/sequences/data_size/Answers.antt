use Rattle.tokens.proofs.Copying.{none_past, none_missing, size_one, size_whole, size_cut}
use Rattle.tokens.proofs.Pieces.{Inside, inside}
use lib.ListN.{length}
use mathlib.Core.Path.{sym, subst, ◌∙◌}
use native.Mathlib.Omega.{arith}
use Rattle.pieces.proofs.sequences.data_size.Goals as goal

pub returns-then-at-s : goal.returns-then-at-s
returns-then-at-s c = none_past _ _ (omega arith)

pub returns-in_default : goal.returns-in_default
returns-in_default c = none_missing _ _ (sym c.piece_at.ensures ∙ c.in_default.is)

pub overflow_add-piece : goal.overflow_add-piece
overflow_add-piece c =
    omega (arith, (subst (Inside (length c.args.s.now) c.args.at) (sym c.piece_at.ensures ∙ c.in-Some.is) (inside c.args.s.now c.args.at)).1, c.well_formed)

pub returns-then-not-is_continued_at : goal.returns-then-not-is_continued_at
returns-then-not-is_continued_at c =
    size_one _ _ _ _ (sym c.piece_at.ensures ∙ c.in-Some.is) (sym c.is_continued_at.ensures ∙ c.if-not-is_continued_at.true) (subst (Inside (length c.args.s.now) c.args.at) (sym c.piece_at.ensures ∙ c.in-Some.is) (inside c.args.s.now c.args.at)).1

pub gather-requires : goal.gather-requires
gather-requires c =
    (subst (Inside (length c.args.s.now) c.args.at) (sym c.piece_at.ensures ∙ c.in-Some.is) (inside c.args.s.now c.args.at)).1

pub returns-in-Err : goal.returns-in-Err
returns-in-Err c = size_cut _ _ _ _ 31 _ (sym c.piece_at.ensures ∙ c.in-Some.is) c.gather.ensures.0 c.in-Err.is

pub returns-in-Ok : goal.returns-in-Ok
returns-in-Ok c = size_whole _ _ _ _ 31 _ (sym c.piece_at.ensures ∙ c.in-Some.is) c.gather.ensures.0 c.in-Ok.is
