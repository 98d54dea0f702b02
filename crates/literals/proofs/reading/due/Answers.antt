use Rattle.nesting.proofs.BodyTurns.{operator_shown}
use Rattle.literals.proofs.Passing.{number_found, operator_found, is_as}
use Rattle.passing.proofs.Knowing.{sequence_shown}
use Rattle.literals.proofs.Standing.{stands_reads, stands_ends}
use Rattle.literals.proofs.reading.due.Goals as goal

pub form-requires : goal.form-requires
form-requires c = stands_reads _ c.requires.2

pub operator-requires : goal.operator-requires
operator-requires c =
    (c.requires.0, c.requires.1, λ r. stands_ends _ _ _ c.requires.2 (operator_shown _ _ _ _ _ c.in-Operator.is c.form.ensures) r)

pub due_sequence-requires : goal.due_sequence-requires
due_sequence-requires c = (c.requires.0, sequence_shown _ _ _ c.in-Sequence.is c.form.ensures, c.requires.2)

pub returns-in-Number : goal.returns-in-Number
returns-in-Number c =
    (is_as (number_found _ _ _ c.form.ensures _ _ _ c.in-Number.is c.short_value-value.ensures) c.found.ensures, c.requires.1)

pub returns-in-Operator : goal.returns-in-Operator
returns-in-Operator c =
    (is_as (operator_found _ _ _ c.form.ensures _ _ c.in-Operator.is) c.operator.ensures.0, c.operator.ensures.1)
