-- `calls::run` meets its promise. Assumes nothing.
use Rattle.std.specs.Prelude.{Err}
use mathlib.Core.Path.{ap, ◌∙◌}
use lib.ListN.{length}
use lib.IntN.{nat_abs}
use lib.Seq.{length-take-le}
use mir.Facts.{to_z-of_z}
use Rattle.book.proofs.Booking.{came, stays, laid, few_steps, some_steps, run_room, run_halts, run_done}
use borrow.Author.Rules.{rules}
use Rattle.std.proofs.lemmas.Result.{err_from_is_err_and}
use Rattle.book.proofs.calls.run.Goals as goal

pub count-steps-requires : goal.count-steps-requires
count-steps-requires c =
    some_steps (came (to_z-of_z c.ranges.allowance) c.room_to_run-room.ensures c.admit.ensures c.in_ok-last.was) (to_z-of_z c.ranges.allowance)

pub slice_bounds-w-end : goal.slice_bounds-w-end
slice_bounds-w-end c =
    (run_room (length c.args.scratch.now) (length c.args.rows.now) (came (to_z-of_z c.ranges.allowance) c.room_to_run-room.ensures c.admit.ensures c.in_ok-last.was)).0

pub run_all-requires : goal.run_all-requires
run_all-requires c =
    let g = (came (to_z-of_z c.ranges.allowance) c.room_to_run-room.ensures c.admit.ensures c.in_ok-last.was) in let r = (run_room (length c.args.scratch.now) (length c.args.rows.now) (came (to_z-of_z c.ranges.allowance) c.room_to_run-room.ensures c.admit.ensures c.in_ok-last.was)) in (laid g (search rules), g.short, few_steps g (to_z-of_z c.ranges.allowance) c.count-steps.ensures, length-take-le 48000 c.args.scratch.now r.0, r.1)

pub returns : goal.returns
returns c =
    run_done _ _ _ _ _ _ _ _ _ _ (came (to_z-of_z c.ranges.allowance) c.room_to_run-room.ensures c.admit.ensures c.in_ok-last.was) (c.count-steps.ensures ∙ ap nat_abs (to_z-of_z c.ranges.allowance)) c.run_all.ensures

pub returns-in_err-last : goal.returns-in_err-last
returns-in_err-last c =
    let p = err_from_is_err_and c.from_residual.result c.from_residual.ensures.1 in
    run_halts _ _ _ _ _ _ _ _ (stays (to_z-of_z c.ranges.allowance) c.room_to_run-room.ensures c.admit.ensures c.in_err-last.was) (p.1 ∙ ap Err p.2)
