-- `calls::reprint` meets its promise. Assumes nothing.
use Rattle.std.specs.Prelude.{Err}
use mathlib.Core.Path.{refl, ap, ◌∙◌}
use lib.ListN.{length}
use lib.IntN.{pos, nat_abs}
use lib.Seq.{length-take-le}
use mir.Facts.{to_z-of_z}
use Rattle.admission.proofs.Admitting.{asked}
use Rattle.book.proofs.Booking.{came, stays, few_steps, some_steps}
use Rattle.book.proofs.Reprinting.{reprint_halts, no_page, reprint_done, page_held, page_counts, few_pages, reprint_room}
use borrow.Author.Rules.{rules}
use Rattle.std.proofs.lemmas.Result.{err_from_is_err_and}
use Rattle.book.proofs.calls.reprint.Goals as goal

pub has_page-requires : goal.has_page-requires
has_page-requires c =
    few_pages (came (to_z-of_z c.ranges.allowance) c.room_to_reprint-room.ensures c.admit.ensures c.in_ok-last.was)

pub returns-then-not-has_page : goal.returns-then-not-has_page
returns-then-not-has_page c =
    no_page _ _ _ _ _ _ _ _ (came (to_z-of_z c.ranges.allowance) c.room_to_reprint-room.ensures c.admit.ensures c.in_ok-last.was) _ (asked (pos 0) (to_z-of_z c.ranges.page) refl c.has_page.ensures c.if-not-has_page.true) (ap Err c.met_at.ensures)

pub count-number-requires : goal.count-number-requires
count-number-requires c =
    page_counts c.in_ok-last.last (to_z-of_z c.ranges.page) (asked (pos 0) (to_z-of_z c.ranges.page) refl c.has_page.ensures c.if-not-has_page.false)

pub count-steps-requires : goal.count-steps-requires
count-steps-requires c =
    some_steps (came (to_z-of_z c.ranges.allowance) c.room_to_reprint-room.ensures c.admit.ensures c.in_ok-last.was) (to_z-of_z c.ranges.allowance)

pub slice_bounds-w-end : goal.slice_bounds-w-end
slice_bounds-w-end c =
    (reprint_room (length c.args.scratch.now) (length c.args.rows.now) (length c.args.sections.now) (came (to_z-of_z c.ranges.allowance) c.room_to_reprint-room.ensures c.admit.ensures c.in_ok-last.was)).0

pub reprint_one-requires : goal.reprint_one-requires
reprint_one-requires c =
    let g = (came (to_z-of_z c.ranges.allowance) c.room_to_reprint-room.ensures c.admit.ensures c.in_ok-last.was) in let r = (reprint_room (length c.args.scratch.now) (length c.args.rows.now) (length c.args.sections.now) (came (to_z-of_z c.ranges.allowance) c.room_to_reprint-room.ensures c.admit.ensures c.in_ok-last.was)) in (page_held c.args.page (search rules) g (asked (pos 0) (to_z-of_z c.ranges.page) refl c.has_page.ensures c.if-not-has_page.false) (c.count-number.ensures ∙ ap nat_abs (to_z-of_z c.ranges.page)), g.short, few_steps g (to_z-of_z c.ranges.allowance) c.count-steps.ensures, length-take-le 48000 c.args.scratch.now r.0, r.1, r.2)

pub returns : goal.returns
returns c =
    reprint_done _ _ _ _ _ _ _ _ (came (to_z-of_z c.ranges.allowance) c.room_to_reprint-room.ensures c.admit.ensures c.in_ok-last.was) _ _ _ _ _ _ (asked (pos 0) (to_z-of_z c.ranges.page) refl c.has_page.ensures c.if-not-has_page.false) (c.count-steps.ensures ∙ ap nat_abs (to_z-of_z c.ranges.allowance)) (c.count-number.ensures ∙ ap nat_abs (to_z-of_z c.ranges.page)) c.reprint_one.ensures

pub returns-in_err-last : goal.returns-in_err-last
returns-in_err-last c =
    let p = err_from_is_err_and c.from_residual.result c.from_residual.ensures.1 in
    reprint_halts _ _ _ _ _ _ _ _ _ _ (stays (to_z-of_z c.ranges.allowance) c.room_to_reprint-room.ensures c.admit.ensures c.in_err-last.was) (p.1 ∙ ap Err p.2)
