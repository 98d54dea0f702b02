-- `bodies::due_here` meets its contract: the token by its form, case by case. Assumes nothing.
use Rattle.std.specs.Prelude.{Err}
use Rattle.std.proofs.lemmas.Result.{err_from_is_err_and}
use mathlib.Core.Path.{ap, ◌∙◌}
use borrow.Author.Tests.{eq-eqb, ne_eqb}
use Rattle.machine.specs.Skeleton.{due_by}
use Rattle.nesting.proofs.BodyTurns.{operator_shown, passed_due, stopped_by, not_due_there}
use Rattle.nesting.proofs.bodies.due_here.Goals as goal
use Rattle.nesting.proofs.bodies.due_here.Goals.{in_default-form-via-in-Operator+else-number-n, in_default-form-via-in_default-form}

pub returns-in_default : goal.returns-in_default
unfolding due_by
returns-in_default c = rw (c.in_default.ensures, c.met_at.ensures)

pub returns-in-Operator : goal.returns-in-Operator
unfolding due_by
returns-in-Operator c = rw (operator_shown _ _ _ _ _ c.in-Operator.is c.in-Some.ensures, eq-eqb _ _ c.if-number-n.true)

pub returns-in_default-form : goal.returns-in_default-form
unfolding due_by
returns-in_default-form c = elim c.in_default-form.branch [
  | in_default-form-via-in-Operator+else-number-n w ↦
      rw (operator_shown _ _ _ _ _ w.in-Operator.is c.in-Some.ensures, ne_eqb _ _ w.if-number-n.false, c.met_at-in_default-form.ensures)
  | in_default-form-via-in_default-form w ↦
      ap Err c.met_at-in_default-form.ensures ∙ not_due_there _ _ _ c.args.n c.in-Some.ensures w.in_default-form.not-Operator w.in_default-form.not-Sequence
]

pub returns-in_err-pass_sequence-in-Sequence : goal.returns-in_err-pass_sequence-in-Sequence
unfolding stopped_by
returns-in_err-pass_sequence-in-Sequence c =
    let p = err_from_is_err_and c.from_residual.result c.from_residual.ensures.1 in
    rw (p.1, p.2) (passed_due _ _ _ c.args.n _ _ c.in-Sequence.is c.in-Some.ensures c.pass_sequence.ensures c.in_err-pass_sequence-in-Sequence.was)

pub returns-in_ok-pass_sequence-in-Sequence : goal.returns-in_ok-pass_sequence-in-Sequence
unfolding stopped_by
returns-in_ok-pass_sequence-in-Sequence c =
    let e = passed_due _ _ _ c.args.n _ _ c.in-Sequence.is c.in-Some.ensures c.pass_sequence.ensures c.in_ok-pass_sequence-in-Sequence.was in
    ap Err c.met_at-in-Sequence.ensures ∙ e
