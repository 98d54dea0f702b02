-- `pages::turn` meets its contract: the token, case by case. Assumes nothing.
use Rattle.std.proofs.lemmas.Result.{err_from_is_err_and}
use borrow.Author.Tests.{eq-eqb, ne_eqb}
use Rattle.skeleton.specs.Turns.{turn_by, turn_at}
use Rattle.skeleton.proofs.PageTurns.{barred}
use Rattle.skeleton.proofs.pages.turn.Goals as goal
use Rattle.skeleton.proofs.pages.turn.Goals.{in_default-via-in-Operator-2+else-number-eq-END, in_default-via-in_default}

pub returns-in_err-number : goal.returns-in_err-number
unfolding turn_at turn_by
returns-in_err-number c =
    let p = err_from_is_err_and c.from_residual.result c.from_residual.ensures.1 in rw (p.1, p.2, ← c.read_token.ensures, c.in_err-number.was)

pub returns-in-Operator : goal.returns-in-Operator
unfolding turn_at turn_by
returns-in-Operator c =
    rw (← c.read_token.ensures, c.in_ok-number.was, c.in-Operator.is, eq-eqb _ _ c.if-number-eq-OPEN.true, c.page_turn.ensures)

pub returns-in-Operator-2 : goal.returns-in-Operator-2
unfolding turn_at turn_by
returns-in-Operator-2 c =
    let e = ne_eqb _ _ c.if-number-eq-OPEN.false in
    rw (← c.read_token.ensures, c.in_ok-number.was, c.in-Operator.is, e, eq-eqb _ _ c.if-number-eq-END.true, c.end_turn.ensures)

pub returns-in-Comment : goal.returns-in-Comment
unfolding turn_at turn_by
returns-in-Comment c = rw (← c.read_token.ensures, c.in_ok-number.was, c.in-Comment.is)

pub returns-in_default : goal.returns-in_default
unfolding turn_at turn_by
returns-in_default c = elim c.in_default.branch [
  | in_default-via-in-Operator-2+else-number-eq-END w ↦
      let e = ne_eqb _ _ w.if-number-eq-OPEN.false in
      rw (c.met_at.ensures, ← c.read_token.ensures, c.in_ok-number.was, w.in-Operator.is, e, ne_eqb _ _ w.if-number-eq-END.false)
  | in_default-via-in_default w ↦
      let a = c.args in
      rw (c.met_at.ensures, ← c.read_token.ensures, c.in_ok-number.was) (barred _ a.s.now a.had a.at w.in_default.not-Operator w.in_default.not-Comment)
]
