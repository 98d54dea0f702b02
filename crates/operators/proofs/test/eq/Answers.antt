-- `test::eq` meets its contract. Assumes nothing.
use mathlib.Core.Path.{ap, ◌∙◌}
use Rattle.machine.specs.Operand.{whether}
use Rattle.machine.specs.Ops.Test.{test_effect}
use Rattle.operators.proofs.Testing.{eq_numbers, eq_number, eq_identifiers, eq_identifier, eq_never}
use Rattle.operators.proofs.test.eq.Goals as goal
use Rattle.operators.proofs.test.eq.Goals.{in_default-via-in-Number+in_default, in_default-via-in-Identifier+in_default, in_default-via-in_default}

pub returns-in-Number-Number : goal.returns-in-Number-Number
unfolding test_effect
returns-in-Number-Number c =
    (c.whether.ensures.0 ∙ ap whether c.is_equal.ensures ∙ eq_numbers _ _ c.in-Number-Number.is-0 c.in-Number-Number.is-1, c.whether.ensures.1)

pub returns-in-Identifier-Identifier : goal.returns-in-Identifier-Identifier
unfolding test_effect
returns-in-Identifier-Identifier c = (eq_identifiers _ _ _ _ _ _ c.in-Identifier-Identifier.is-0 c.in-Identifier-Identifier.is-1, tt)

pub returns-in_default : goal.returns-in_default
unfolding test_effect
returns-in_default c =
    elim c.in_default.branch [
      | in_default-via-in-Number+in_default w ↦
          (c.whether-in_default.ensures.0 ∙ eq_number _ c.args.y w.in_default.is-0 w.in_default.not-Number-1, c.whether-in_default.ensures.1)
      | in_default-via-in-Identifier+in_default w ↦
          (c.whether-in_default.ensures.0 ∙ eq_identifier _ _ _ c.args.y w.in_default.is-0 w.in_default.not-Identifier-1, c.whether-in_default.ensures.1)
      | in_default-via-in_default w ↦
          (c.whether-in_default.ensures.0 ∙ eq_never c.args.x c.args.y w.in_default.not-Number-0 w.in_default.not-Identifier-0, c.whether-in_default.ensures.1)
    ]
