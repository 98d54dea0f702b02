-- `copy_from` meets its contract: what is copied and what continues from `at` on are the whole data. Assumes nothing.
use Rattle.std.specs.Prelude.{Some}
use Rattle.tokens.specs.Joined.{piece_from}
use mathlib.Core.Path.{◌≡◌, refl, sym, ◌∙◌}
use mathlib.Core.List.{[], ◌++◌}
use Prim.Native.Nat.{ℕ, ◌+◌, ◌-◌}
use native.Mathlib.Omega.{arith}
use lib.ListN.{length}
use lib.Seq.{slice}
use Rattle.std.proofs.lemmas.List.Edits.{length-between}
use Rattle.std.proofs.lemmas.Slice.{between_is}
use Rattle.tokens.specs.Joined.{continuing}
use Rattle.tokens.proofs.Copying.{as_found, none_left, copied_end, piece_fits, copied_next}
use Rattle.filling.specs.Filling.{shown}
use Rattle.filling.proofs.Copying.{shows}
use Rattle.filling.proofs.copy_from.Goals as goal
use Rattle.filling.proofs.copy_from.Goals.{In-Some}

here : (c : In-Some) → continuing c.args.s.now c.loop-at.at ≡ Some (piece_from c.in-Some.piece.start c.in-Some.piece.len)
here c = sym c.next_piece.ensures ∙ c.in-Some.is

pub loop-at-init : goal.loop-at-init
loop-at-init c =
    let a = c.args in (length a.s.now, [], record { room = omega arith; place = omega arith; same = refl; text_is = as_found (shown a.lower) (shows a.lower) a.text.now a.o; rest = refl })

pub next_piece-requires : goal.next_piece-requires
next_piece-requires c = omega arith

pub shape_of-text-in_default : goal.shape_of-text-in_default
shape_of-text-in_default c = c.loop-at.invariant.2.same

pub returns-in_default : goal.returns-in_default
returns-in_default c = copied_end (shows _) c.loop-at.invariant.2 c.requires (sym c.next_piece.ensures ∙ c.in_default.is)

pub put_part-requires : goal.put_part-requires
put_part-requires c =
    let w = piece_fits (shows _) c.loop-at.invariant.2 c.requires (here (goal.at.put_part-requires c).In-Some) in
    let f : ℕ = c.in-Some.piece.start in
    omega (arith, w.2, length-between c.args.s.now f (f + c.in-Some.piece.len) w.1)

pub slice_bounds-put_part-end : goal.slice_bounds-put_part-end
slice_bounds-put_part-end c =
    (piece_fits (shows _) c.loop-at.invariant.2 c.requires (here (goal.at.slice_bounds-put_part-end c).In-Some)).1

pub overflow_add-at : goal.overflow_add-at
overflow_add-at c =
    omega (arith, (piece_fits (shows _) c.loop-at.invariant.2 c.requires (here (goal.at.overflow_add-at c).In-Some)).1)

pub overflow_add-q : goal.overflow_add-q
overflow_add-q c =
    omega (arith, (piece_fits (shows _) c.loop-at.invariant.2 c.requires (here (goal.at.overflow_add-q c).In-Some)).2, c.loop-at.invariant.2.same)

pub loop-at-smaller : goal.loop-at-smaller
loop-at-smaller c =
    let w = piece_fits (shows _) c.loop-at.invariant.2 c.requires (here (goal.at.loop-at-smaller c).In-Some) in omega (arith, w.0, w.1)

pub loop-at-preserved : goal.loop-at-preserved
loop-at-preserved c =
    let i = c.loop-at.invariant in
    let f : ℕ = c.in-Some.piece.start in (
      i.0 - 1,
      i.1 ++ slice f (f + c.in-Some.piece.len) c.args.s.now,
      copied_next (shows _) i.2 c.requires (here (goal.at.loop-at-preserved c).In-Some)
          c.put_part.auto.text (rw (between_is c.args.s.now f (f + c.in-Some.piece.len)) at c.put_part.ensures),
    )

pub shape_of-text : goal.shape_of-text
shape_of-text c = c.loop-at.invariant.2.same

pub returns : goal.returns
returns c =
    copied_end (shows _) c.loop-at.invariant.2 c.requires (none_left c.args.s.now c.loop-at.at (omega arith))
