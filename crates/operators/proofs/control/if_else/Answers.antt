-- `control::if_else` meets its contract. Assumes nothing.
use mathlib.Core.Path.{ap, ◌∙◌}
use borrow.Author.Tests.{eq-eqb, ne_eqb}
use Rattle.std.specs.Prelude.{Some}
use Rattle.machine.specs.declared.Effect.TheVariants.{Gives}
use Rattle.machine.specs.Ops.Control.{body_effect}
use Rattle.operands.proofs.Reading.{nothing, no_card, is_card, when_so, when_not}
use Rattle.operators.proofs.control.if_else.Goals as goal

pub returns-in_err-i : goal.returns-in_err-i
unfolding body_effect
returns-in_err-i c = nothing c.from_residual.ensures (no_card _ _ c.cardinal.ensures.0 c.in_err-i.was)

pub returns-then-i-eq0 : goal.returns-then-i-eq0
unfolding body_effect
returns-then-i-eq0 c = (ap (λ n. Some (Gives n)) c.natural.ensures ∙ when_so _ _ (eq-eqb _ 0 c.if-i-eq0.true) ∙ is_card _ _ c.cardinal.ensures.0 c.in_ok-i.was, tt)

pub returns : goal.returns
unfolding body_effect
returns c = (when_not _ _ (ne_eqb _ 0 c.if-i-eq0.false) ∙ is_card _ _ c.cardinal.ensures.0 c.in_ok-i.was, c.requires)
