use Rattle.nesting.proofs.BodyTurns.{operator_shown}
use Rattle.literals.proofs.Passing.{number_over, sequence_over}
use Rattle.passing.proofs.Knowing.{sequence_shown, ends_there}
use Rattle.literals.proofs.Standing.{stands_reads, stands_solid, stands_ends, operator_passes}
use mathlib.Core.Path.{refl}
use Rattle.literals.proofs.reading.ahead.Goals as goal

pub form-requires : goal.form-requires
form-requires c = stands_reads _ c.requires.1

pub past_operator-requires : goal.past_operator-requires
past_operator-requires c =
    (c.requires.0, λ r. stands_ends _ _ _ c.requires.1 (operator_shown _ _ _ _ _ c.in-Operator.is c.form.ensures) r)

pub extent-requires : goal.extent-requires
extent-requires c = (sequence_shown _ _ _ c.in-Sequence.is c.form.ensures).0

pub returns-in-Number : goal.returns-in-Number
returns-in-Number c = number_over _ _ _ c.form.ensures _ _ _ c.in-Number.is c.past_comments.ensures

pub returns-in-Operator : goal.returns-in-Operator
returns-in-Operator c =
    operator_passes _ _ _ c.requires.1 (operator_shown _ _ _ _ _ c.in-Operator.is c.form.ensures) c.past_operator.ensures refl

pub returns-in-Sequence : goal.returns-in-Sequence
returns-in-Sequence c =
    let g = sequence_shown _ _ _ c.in-Sequence.is c.form.ensures in
    let e = ends_there _ _ g.1 (stands_reads _ c.requires.1) _ c.extent.ensures in
    sequence_over _ _ g _ refl _ _ (stands_solid _ c.requires.1) e c.past_comments-in-Sequence.ensures
