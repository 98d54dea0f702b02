-- `stack::roll` meets its contract. Assumes nothing.
use mathlib.Core.Path.{◌∙◌}
use borrow.Author.Tests.{le-leb, lt-leb}
use Rattle.machine.specs.Ops.Stack.{stack_effect}
use Rattle.machine.specs.Operand.{only_if}
use Rattle.operands.proofs.Reading.{nothing, no_card, is_card, when_so, when_not}
use Rattle.operators.proofs.stack.roll.Goals as goal

pub returns-in_err-m : goal.returns-in_err-m
unfolding stack_effect
returns-in_err-m c = nothing c.from_residual.ensures (no_card _ _ c.cardinal.ensures.0 c.in_err-m.was)

pub returns-in_err-n : goal.returns-in_err-n
unfolding stack_effect
returns-in_err-n c =
    nothing c.from_residual-in_err-n.ensures (no_card _ _ c.cardinal-2.ensures.0 c.in_err-n.was ∙ is_card _ _ c.cardinal.ensures.0 c.in_ok-m.was)

pub returns-then-m-n : goal.returns-then-m-n
unfolding stack_effect only_if
returns-then-m-n c =
    (when_not _ _ (lt-leb _ _ c.if-m-n.true) ∙ is_card _ _ c.cardinal-2.ensures.0 c.in_ok-n.was ∙ is_card _ _ c.cardinal.ensures.0 c.in_ok-m.was, tt)

pub returns : goal.returns
unfolding stack_effect only_if
returns c =
    (when_so _ _ (le-leb _ _ c.if-m-n.false) ∙ is_card _ _ c.cardinal-2.ensures.0 c.in_ok-n.was ∙ is_card _ _ c.cardinal.ensures.0 c.in_ok-m.was, tt)
