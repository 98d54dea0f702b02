use native.Mathlib.Omega.{arith}
use mathlib.Core.Path.{refl, sym, ap, ◌∙◌}
use Rattle.std.specs.Prelude.{Ok}
use Rattle.literals.proofs.Finding.{name_inside}
use Rattle.passing.proofs.Knowing.{name_there}
use Rattle.sprints.proofs.Rows.{strides_none, strides_name, strides_figure, sequence_read}
use Rattle.sprints.proofs.Swiftly.{figure_flat, name_flat, by_figure, by_name}
use Rattle.sprints.proofs.Level.{flat_of}
use Rattle.sprints.proofs.sequence.Goals as goal

pub returns-then-not-is_solid : goal.returns-then-not-is_solid
returns-then-not-is_solid c = strides_none _ _ _ c.undone.ensures

pub returns-then-low5-eq-STRING : goal.returns-then-low5-eq-STRING
returns-then-low5-eq-STRING c = strides_none _ _ _ c.undone-then-low5-eq-STRING.ensures

pub word-requires-then-low5-eq-IDENTIFIER : goal.word-requires-then-low5-eq-IDENTIFIER
word-requires-then-low5-eq-IDENTIFIER c =
    omega (arith, name_inside _ _ _ refl _ _ (name_there _ _ c.requires.2.1 c.requires.3.0 _ c.extent-x.ensures (sym c.low5-2.ensures ∙ c.if-low5-eq-IDENTIFIER.true)), c.requires.0)

pub returns-then-low5-eq-IDENTIFIER : goal.returns-then-low5-eq-IDENTIFIER
returns-then-low5-eq-IDENTIFIER c =
    strides_name _ _ _ _ _ _ (name_there _ _ c.requires.2.1 c.requires.3.0 _ c.extent-x.ensures (sym c.low5-2.ensures ∙ c.if-low5-eq-IDENTIFIER.true)) c.word.ensures c.word-then-low5-eq-IDENTIFIER.ensures (λ code. flat_of code _ (name_flat _ _ _) _ _ c.height_of-height.ensures (by_name code _ _ _ refl c.push_name.ensures))

pub returns-in-Ok-Number : goal.returns-in-Ok-Number
returns-in-Ok-Number c =
    strides_figure _ _ _ _ (sequence_read _ _ c.requires.2.1 c.requires.3.0 _ _ c.sequence_at.ensures c.in-Ok-Number.is ∙ ap Ok c.in-Ok-Number.field-0-is) (λ code. flat_of code _ (figure_flat _ _) _ _ c.height_of-height-in-Ok-Number.ensures (by_figure code _ _ refl c.push_number.ensures))

pub returns-in_default : goal.returns-in_default
returns-in_default c = strides_none _ _ _ c.undone-in_default.ensures
