-- `test::or` meets its contract. Assumes nothing.
use mathlib.Core.Path.{ap, ◌∙◌}
use Rattle.machine.specs.Ops.Test.{joined, test_effect}
use Rattle.operands.proofs.Reading.{nothing, no_card, is_card}
use Rattle.machine.specs.Operand.{whether}
use Rattle.operators.proofs.Testing.{or_on, or_off}
use Rattle.operators.proofs.test.or.Goals as goal
use Rattle.operators.proofs.test.or.Goals.{then-a-ne0, else-a-ne0}

pub returns-in_err-a : goal.returns-in_err-a
unfolding test_effect joined
returns-in_err-a c = nothing c.from_residual.ensures (no_card _ _ c.cardinal.ensures.0 c.in_err-a.was)

pub returns-in_err-b : goal.returns-in_err-b
unfolding test_effect joined
returns-in_err-b c =
    nothing c.from_residual-in_err-b.ensures (no_card _ _ c.cardinal-2.ensures.0 c.in_err-b.was ∙ is_card _ _ c.cardinal.ensures.0 c.in_ok-a.was)

pub returns : goal.returns
unfolding test_effect joined
returns c =
    let e = is_card _ _ c.cardinal-2.ensures.0 c.in_ok-b.was ∙ is_card _ _ c.cardinal.ensures.0 c.in_ok-a.was in
    elim c.if-a-ne0.branch [
      | then-a-ne0 w ↦ (c.whether.ensures.0 ∙ ap whether w.whether-is ∙ or_on _ _ w.if-a-ne0.true ∙ e, c.whether.ensures.1)
      | else-a-ne0 w ↦ (c.whether.ensures.0 ∙ ap whether w.whether-is ∙ or_off _ _ w.if-a-ne0.false ∙ e, c.whether.ensures.1)
    ]
