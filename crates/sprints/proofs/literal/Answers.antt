-- `literal` meets its contract. Assumes nothing.
use mathlib.Core.Path.{refl}
use mathlib.Core.List.{[]}
use Rattle.sprints.proofs.Rows.{strides_of, strides_higher, number_none, operator_none}
use Rattle.sprints.proofs.Swiftly.{figure_flat, by_figure, number_inside, found_number}
use Rattle.sprints.proofs.Level.{flat_of}
use Rattle.nesting.proofs.BodyTurns.{operator_shown, operator_ends}
use Rattle.passing.proofs.Knowing.{sequence_shown}
use Rattle.literals.proofs.Passing.{plain_found}
use Rattle.sprints.proofs.literal.Goals as goal

pub form-requires : goal.form-requires
form-requires c = c.requires.4.0

pub sequence-requires : goal.sequence-requires
sequence-requires c = (c.requires.0, c.requires.1, sequence_shown _ _ _ c.in-Sequence.is c.form.ensures, c.requires.4)

pub returns-in-Number : goal.returns-in-Number
returns-in-Number c =
    strides_higher c.requires.3 (strides_of _ _ _ _ _ _ (λ h. found_number _ _ _ c.form.ensures _ _ _ _ c.in-Number.is c.short_value-a.ensures refl) refl (number_inside _ _ _ c.form.ensures _ _ c.in-Number.is) (number_none _ _ _ c.form.ensures _ _ c.in-Number.is) (λ k. absurd (k refl)) (λ code. flat_of code _ (figure_flat _ _) _ _ c.height_of-height.ensures (by_figure code _ _ refl c.push_number.ensures)))

pub returns-in-Operator : goal.returns-in-Operator
returns-in-Operator c =
    strides_of _ _ _ _ _ _ (λ h. plain_found _ _ _ c.form.ensures _ _ _ c.in-Operator.is refl ((c.operate-height.ensures []).1 h)) refl (operator_ends _ _ _ _ _ c.in-Operator.is c.form.ensures).1 (operator_none _ _ _ c.form.ensures _ _ c.in-Operator.is) (λ _. operator_shown _ _ _ _ _ c.in-Operator.is c.form.ensures) (λ code. (c.operate-height.ensures code).0)

pub returns-in-Sequence : goal.returns-in-Sequence
returns-in-Sequence c = strides_higher c.requires.3 c.sequence.ensures
