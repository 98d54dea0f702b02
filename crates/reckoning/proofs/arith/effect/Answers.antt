-- `arith::effect` meets its contract. Assumes nothing.
use mathlib.Core.Path.{sym, ap, ◌∙◌}
use Rattle.machine.specs.Operand.{answered}
use Rattle.operands.proofs.Reading.{nothing}
use Rattle.reckoning.proofs.Reckoned.{reckon_none, reckon_one, reckon_below, reckon_two}
use Rattle.reckoning.proofs.arith.effect.Goals as goal

pub returns-in_err-b : goal.returns-in_err-b
returns-in_err-b c = nothing c.from_residual.ensures (reckon_none _ _ _ c.figure.ensures c.in_err-b.was)

pub returns-then-arity-eq1 : goal.returns-then-arity-eq1
returns-then-arity-eq1 c =
    (c.answered.ensures.0 ∙ ap answered c.reckon.ensures ∙ reckon_one _ _ _ c.figure.ensures _ c.in_ok-b.was (sym c.arity.ensures.0 ∙ c.if-arity-eq1.true), c.answered.ensures.1)

pub returns-in_err-a : goal.returns-in_err-a
returns-in_err-a c =
    nothing c.from_residual-in_err-a.ensures (reckon_below _ _ _ c.figure.ensures _ c.in_ok-b.was (λ e. c.if-arity-eq1.false (c.arity.ensures.0 ∙ e)) c.figure-2.ensures c.in_err-a.was)

pub returns : goal.returns
returns c =
    (c.answered-2.ensures.0 ∙ ap answered c.reckon-2.ensures ∙ reckon_two _ _ _ c.figure.ensures _ c.in_ok-b.was (λ e. c.if-arity-eq1.false (c.arity.ensures.0 ∙ e)) c.figure-2.ensures _ c.in_ok-a.was, c.answered-2.ensures.1)
