-- `reading::step_of` meets its contract, variant by variant. Assumes nothing.
use Rattle.std.specs.Prelude.{Ok}
use mathlib.Core.Logic.{inl, inr}
use mathlib.Core.Path.{sym, ap, ◌∙◌}
use Rattle.filling.specs.Filling.{step_of}
use Rattle.back.proofs.reading.step_of.Goals as goal

pub returns-in-Number : goal.returns-in-Number
returns-in-Number c =
    ap Ok c.new-in-Number.ensures ∙ (elim c.in-Number.is [ inl p ↦ sym (ap (λ t. step_of (Ok t)) p.1) | inr p ↦ sym (ap (λ t. step_of (Ok t)) p.1) ])

pub returns-in-Identifier : goal.returns-in-Identifier
returns-in-Identifier c =
    ap Ok c.new-in-Identifier.ensures ∙ (elim c.in-Identifier.is [ inl e ↦ sym (ap (λ t. step_of (Ok t)) e) | inr e ↦ sym (ap (λ t. step_of (Ok t)) e) ])

pub returns-in-Comment : goal.returns-in-Comment
returns-in-Comment c = ap Ok c.new.ensures ∙ sym (ap (λ t. step_of (Ok t)) c.in-Comment.is)
