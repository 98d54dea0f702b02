-- `stack::error` meets its contract. Assumes nothing.
use mathlib.Core.Path.{sym, ◌∙◌}
use Rattle.machine.specs.Ops.Stack.{stack_effect}
use Rattle.machine.specs.Operand.{only_if}
use Rattle.operands.proofs.Reading.{nothing, no_card, is_card, no_vector, is_vector, when_so, when_not}
use Rattle.operators.proofs.stack.error.Goals as goal

pub returns-in_err-n : goal.returns-in_err-n
unfolding stack_effect
returns-in_err-n c = nothing c.from_residual.ensures (no_card _ _ c.cardinal.ensures.0 c.in_err-n.was)

pub returns-in_default : goal.returns-in_default
unfolding stack_effect
returns-in_default c = (no_vector c.args.y _ c.in_default.not-Vector ∙ is_card _ _ c.cardinal.ensures.0 c.in_ok-n.was, tt)

pub returns-then-not-is_mild : goal.returns-then-not-is_mild
unfolding stack_effect only_if
returns-then-not-is_mild c =
    (when_not _ _ (sym c.is_mild.ensures ∙ c.if-not-is_mild.true) ∙ is_vector _ c.in-Vector.is ∙ is_card _ _ c.cardinal.ensures.0 c.in_ok-n.was, tt)

pub returns : goal.returns
unfolding stack_effect only_if
returns c =
    (when_so _ _ (sym c.is_mild.ensures ∙ c.if-not-is_mild.false) ∙ is_vector _ c.in-Vector.is ∙ is_card _ _ c.cardinal.ensures.0 c.in_ok-n.was, tt)
