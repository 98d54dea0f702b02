-- `test::gt` meets its contract. Assumes nothing.
use mathlib.Core.Path.{ap, ◌∙◌}
use Rattle.machine.specs.Operand.{whether}
use Rattle.machine.specs.Ops.Test.{compared, test_effect}
use Rattle.operands.proofs.Reading.{nothing, no_figure, is_figure}
use Rattle.operators.proofs.test.gt.Goals as goal

pub returns-in_err-a : goal.returns-in_err-a
unfolding test_effect compared
returns-in_err-a c = nothing c.from_residual.ensures (no_figure _ _ c.figure.ensures c.in_err-a.was)

pub returns-in_err-b : goal.returns-in_err-b
unfolding test_effect compared
returns-in_err-b c =
    nothing c.from_residual-in_err-b.ensures (no_figure _ _ c.figure-2.ensures c.in_err-b.was ∙ is_figure _ _ c.figure.ensures c.in_ok-a.was)

pub returns : goal.returns
unfolding test_effect compared
returns c =
    (c.whether.ensures.0 ∙ ap whether c.is_less.ensures ∙ is_figure _ _ c.figure-2.ensures c.in_ok-b.was ∙ is_figure _ _ c.figure.ensures c.in_ok-a.was, c.whether.ensures.1)
