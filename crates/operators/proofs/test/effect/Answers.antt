-- `test::effect` meets its contract. Assumes nothing.
use Rattle.std.specs.Prelude.{Some}
use mathlib.Core.Path.{ap, ◌∙◌}
use Rattle.machine.specs.Ops.Test.{test_effect}
use Rattle.machine.specs.declared.Effect.TheVariants.{Gives}
use Rattle.machine.specs.Operand.{natural}
use native.Mathlib.Omega.{arith}
use Rattle.operands.proofs.Reading.{nothing, no_card, is_card}
use Rattle.operators.proofs.test.effect.Goals as goal

pub natural-requires : goal.natural-requires
unfolding test_effect
natural-requires c = omega (arith, c.type_number.ensures.1)

pub returns-in-Eq : goal.returns-in-Eq
unfolding test_effect
returns-in-Eq c = rw c.in-Eq.is c.eq.ensures

pub returns-in-Gt : goal.returns-in-Gt
unfolding test_effect
returns-in-Gt c = rw c.in-Gt.is c.gt.ensures

pub returns-in-Ge : goal.returns-in-Ge
unfolding test_effect
returns-in-Ge c = rw c.in-Ge.is c.ge.ensures

pub returns-in-And : goal.returns-in-And
unfolding test_effect
returns-in-And c = rw c.in-And.is c.and.ensures

pub returns-in-Or : goal.returns-in-Or
unfolding test_effect
returns-in-Or c = rw c.in-Or.is c.or.ensures

pub returns-in_err-b-in-Not : goal.returns-in_err-b-in-Not
unfolding test_effect
returns-in_err-b-in-Not c = rw c.in-Not.is (nothing c.from_residual.ensures (no_card _ _ c.cardinal.ensures.0 c.in_err-b-in-Not.was))

pub returns-in_ok-b-in-Not : goal.returns-in_ok-b-in-Not
unfolding test_effect
returns-in_ok-b-in-Not c = rw c.in-Not.is (c.whether.ensures.0 ∙ is_card _ _ c.cardinal.ensures.0 c.in_ok-b-in-Not.was, c.whether.ensures.1)

pub returns-in-TypeOf : goal.returns-in-TypeOf
unfolding test_effect
returns-in-TypeOf c = rw c.in-TypeOf.is (ap (λ n. Some (Gives n)) (c.natural.ensures ∙ ap natural c.type_number.ensures.0), tt)
