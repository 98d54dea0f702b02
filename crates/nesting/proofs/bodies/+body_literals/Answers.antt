-- `bodies::body` and `bodies::literals`, which call each other, meet their contracts: the bytes left fall at each call, and in the loop over
-- a body's literals those from here on end as all of them do. Assumes nothing.
use Rattle.std.specs.Prelude.{Ok, Err}
use Rattle.std.proofs.lemmas.Result.{err_from_is_err_and}
use mathlib.Core.Path.{refl, ap, ◌∙◌}
use native.Mathlib.Nat.{le_refl}
use native.Mathlib.Omega.{arith}
use lib.ListN.{length}
use Rattle.machine.proofs.Inside.{WentIn, due_inside, solid_past}
use Rattle.machine.specs.Skeleton.{opening, solid, held}
use Rattle.nesting.proofs.BodyTurns.{shorter, onward, ended, refused, operator_ends, number_on, plain_on, closing, barred, holding, passed, passed_by, cut, due_there, stopped, full, entered}
use Rattle.nesting.proofs.bodies.+body_literals.Goals as goal

pub body-returns-in_err-next : goal.body-returns-in_err-next
body-returns-in_err-next t c =
    let p = err_from_is_err_and c.from_residual.result c.from_residual.ensures.1 in
    rw (p.1, p.2) (stopped _ _ _ _ (due_there _ _ _ _ _ c.past_comments-q.ensures c.due_here.ensures ∙ c.in_err-next.was))

pub body-returns-then-left-eq0 : goal.body-returns-then-left-eq0
body-returns-then-left-eq0 t c =
    let e = due_there _ _ _ _ _ c.past_comments-q.ensures c.due_here.ensures ∙ c.in_ok-next.was in
    rw (c.met_at.ensures, c.past_comments-q.ensures) (full _ _ _ _ e (omega (arith, c.if-left-eq0.true)))

pub body-literals-requires : goal.body-literals-requires
body-literals-requires t c =
    let a = c.args in
    let e = due_there _ _ _ _ _ c.past_comments-q.ensures c.due_here.ensures ∙ c.in_ok-next.was in
    let g : WentIn (length a.s.now) (solid a.s.now a.at) (Ok c.in_ok-next.next) = rw e at (due_inside opening a.s.now a.at) in
    (omega (arith, g.0, g.1, solid_past a.s.now a.at), tt)

pub body-returns : goal.body-returns
body-returns t c =
    let a = c.args in
    let e = due_there _ _ _ _ _ c.past_comments-q.ensures c.due_here.ensures ∙ c.in_ok-next.was in
    c.literals.ensures ∙ entered a.left a.s.now a.at _ e (omega (arith, c.if-left-eq0.false))

pub literals-loop-form-init : goal.literals-loop-form-init
literals-loop-form-init t c =
    (length c.args.s.now, omega arith, refl, le_refl _)

pub literals-returns-in_default : goal.literals-returns-in_default
literals-returns-in_default t c =
    let a = c.args in let o = c.loop-form in ap Err c.met_at.ensures ∙ refused a.left a.s.now a.at o.p o.invariant _ (cut _ _ a.left c.in_default.ensures)

pub literals-body-requires : goal.literals-body-requires
literals-body-requires t c =
    let a = c.args in
    let o = c.loop-form in
    let g = operator_ends a.s.now o.p _ _ _ c.in-Operator.is c.in-Some.ensures in
    (omega (arith, g.0, g.1, o.invariant.3), tt)

pub literals-returns-in_err-p-in-Holds : goal.literals-returns-in_err-p-in-Holds
unfolding held
literals-returns-in_err-p-in-Holds t c =
    let a = c.args in
    let o = c.loop-form in
    let p = err_from_is_err_and c.from_residual.result c.from_residual.ensures.1 in
    let e = holding _ _ _ a.left _ _ _ _ _ c.in-Operator.is c.in-Some.ensures c.role_of.ensures c.in-Holds.is c.body.ensures c.in_err-p-in-Holds.was in
    rw (p.1, p.2) (refused a.left a.s.now a.at o.p o.invariant _ e)

pub literals-returns-in-Closes : goal.literals-returns-in-Closes
literals-returns-in-Closes t c =
    let a = c.args in
    let o = c.loop-form in
    ended a.left a.s.now a.at o.p o.invariant _ (closing _ _ _ a.left _ _ _ c.in-Operator.is c.in-Some.ensures c.role_of.ensures c.in-Closes.is)

pub literals-returns-in-Barred : goal.literals-returns-in-Barred
literals-returns-in-Barred t c =
    let a = c.args in
    let o = c.loop-form in
    let e = barred _ _ _ a.left _ _ _ c.in-Operator.is c.in-Some.ensures c.role_of.ensures c.in-Barred.is in
    ap Err c.met_at-in-Barred.ensures ∙ refused a.left a.s.now a.at o.p o.invariant _ e

pub literals-returns-in_err-p-in-Sequence : goal.literals-returns-in_err-p-in-Sequence
unfolding passed_by
literals-returns-in_err-p-in-Sequence t c =
    let a = c.args in
    let o = c.loop-form in
    let p = err_from_is_err_and c.from_residual-in_err-p-in-Sequence.result c.from_residual-in_err-p-in-Sequence.ensures.1 in
    let e = passed _ _ _ a.left _ _ c.in-Sequence.is c.in-Some.ensures c.pass_sequence.ensures c.in_err-p-in-Sequence.was in
    rw (p.1, p.2) (refused a.left a.s.now a.at o.p o.invariant _ e)

pub literals-loop-form-smaller-in-Number : goal.literals-loop-form-smaller-in-Number
literals-loop-form-smaller-in-Number t c =
    let a = c.args in let o = c.loop-form in shorter a.left a.s.now a.at o.p o.invariant _ (number_on _ _ _ a.left _ _ c.in-Number.is c.in-Some.ensures)

pub literals-loop-form-preserved-in-Number : goal.literals-loop-form-preserved-in-Number
literals-loop-form-preserved-in-Number t c =
    let a = c.args in let o = c.loop-form in onward a.left a.s.now a.at o.p o.invariant _ (number_on _ _ _ a.left _ _ c.in-Number.is c.in-Some.ensures)

pub literals-loop-form-smaller-in-Plain : goal.literals-loop-form-smaller-in-Plain
literals-loop-form-smaller-in-Plain t c =
    let a = c.args in
    let o = c.loop-form in
    shorter a.left a.s.now a.at o.p o.invariant _ (plain_on _ _ _ a.left _ _ _ c.in-Operator.is c.in-Some.ensures c.role_of.ensures c.in-Plain.is)

pub literals-loop-form-preserved-in-Plain : goal.literals-loop-form-preserved-in-Plain
literals-loop-form-preserved-in-Plain t c =
    let a = c.args in
    let o = c.loop-form in
    onward a.left a.s.now a.at o.p o.invariant _ (plain_on _ _ _ a.left _ _ _ c.in-Operator.is c.in-Some.ensures c.role_of.ensures c.in-Plain.is)

pub literals-loop-form-smaller-in_ok-p-in-Holds : goal.literals-loop-form-smaller-in_ok-p-in-Holds
unfolding held
literals-loop-form-smaller-in_ok-p-in-Holds t c =
    let a = c.args in
    let o = c.loop-form in
    let e = holding _ _ _ a.left _ _ _ _ _ c.in-Operator.is c.in-Some.ensures c.role_of.ensures c.in-Holds.is c.body.ensures c.in_ok-p-in-Holds.was in
    shorter a.left a.s.now a.at o.p o.invariant _ e

pub literals-loop-form-preserved-in_ok-p-in-Holds : goal.literals-loop-form-preserved-in_ok-p-in-Holds
unfolding held
literals-loop-form-preserved-in_ok-p-in-Holds t c =
    let a = c.args in
    let o = c.loop-form in
    let e = holding _ _ _ a.left _ _ _ _ _ c.in-Operator.is c.in-Some.ensures c.role_of.ensures c.in-Holds.is c.body.ensures c.in_ok-p-in-Holds.was in
    onward a.left a.s.now a.at o.p o.invariant _ e

pub literals-loop-form-smaller : goal.literals-loop-form-smaller
unfolding passed_by
literals-loop-form-smaller t c =
    let a = c.args in
    let o = c.loop-form in
    shorter a.left a.s.now a.at o.p o.invariant _ (passed _ _ _ a.left _ _ c.in-Sequence.is c.in-Some.ensures c.pass_sequence.ensures c.in_ok-p-in-Sequence.was)

pub literals-loop-form-preserved : goal.literals-loop-form-preserved
unfolding passed_by
literals-loop-form-preserved t c =
    let a = c.args in
    let o = c.loop-form in
    onward a.left a.s.now a.at o.p o.invariant _ (passed _ _ _ a.left _ _ c.in-Sequence.is c.in-Some.ensures c.pass_sequence.ensures c.in_ok-p-in-Sequence.was)
