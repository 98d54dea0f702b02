-- `frame::effect` meets its contract. Assumes nothing.
use mathlib.Core.Path.{◌∙◌}
use borrow.Author.Tests.{lt-ltb}
use Rattle.machine.specs.Ops.Frame.{frame_effect}
use Rattle.machine.specs.Operand.{only_if}
use Rattle.operands.proofs.Reading.{nothing, is_card, when_so}
use Rattle.operators.proofs.Framing.{frame_none, frame_far}
use Rattle.operators.proofs.frame.effect.Goals as goal

pub returns-in_err-j : goal.returns-in_err-j
returns-in_err-j c = nothing c.from_residual.ensures (frame_none c.args.o _ c.cardinal.ensures.0 c.in_err-j.was)

pub returns-then-j-ge50 : goal.returns-then-j-ge50
returns-then-j-ge50 c = (frame_far c.args.o _ c.cardinal.ensures.0 c.in_ok-j.was c.if-j-ge50.true, tt)

pub returns-in-Fget : goal.returns-in-Fget
unfolding frame_effect only_if
returns-in-Fget c = rw c.in-Fget.is (when_so _ _ (lt-ltb _ _ c.if-j-ge50.false) ∙ is_card _ _ c.cardinal.ensures.0 c.in_ok-j.was, tt)

pub returns-in-Fset : goal.returns-in-Fset
unfolding frame_effect only_if
returns-in-Fset c = rw c.in-Fset.is (when_so _ _ (lt-ltb _ _ c.if-j-ge50.false) ∙ is_card _ _ c.cardinal.ensures.0 c.in_ok-j.was, tt)
