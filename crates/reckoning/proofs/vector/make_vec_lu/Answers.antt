-- `vector::make_vec_lu` meets its contract. Assumes nothing.
use mathlib.Core.Path.{◌∙◌}
use native.Mathlib.Omega.{arith}
use borrow.Author.Tests.{le-leb, lt-leb}
use Rattle.machine.specs.Ops.Vector.{vector_effect}
use Rattle.machine.specs.Operand.{only_if}
use Rattle.operands.proofs.Reading.{nothing, no_card, is_card, card_most, when_so, when_not}
use Rattle.reckoning.proofs.vector.make_vec_lu.Goals as goal

pub returns-in_err-u : goal.returns-in_err-u
unfolding vector_effect
returns-in_err-u c = nothing c.from_residual.ensures (no_card _ _ c.cardinal.ensures.0 c.in_err-u.was)

pub returns-in_err-l : goal.returns-in_err-l
unfolding vector_effect
returns-in_err-l c =
    nothing c.from_residual-in_err-l.ensures (no_card _ _ c.cardinal-2.ensures.0 c.in_err-l.was ∙ is_card _ _ c.cardinal.ensures.0 c.in_ok-u.was)

pub returns-then-l-u : goal.returns-then-l-u
unfolding vector_effect only_if
returns-then-l-u c =
    (when_not _ _ (lt-leb _ _ c.if-l-u.true) ∙ is_card _ _ c.cardinal-2.ensures.0 c.in_ok-l.was ∙ is_card _ _ c.cardinal.ensures.0 c.in_ok-u.was, tt)

pub returns : goal.returns
unfolding vector_effect only_if
returns c =
    (when_so _ _ (le-leb _ _ c.if-l-u.false) ∙ is_card _ _ c.cardinal-2.ensures.0 c.in_ok-l.was ∙ is_card _ _ c.cardinal.ensures.0 c.in_ok-u.was, omega (arith, card_most c.cardinal-2.ensures.1 c.in_ok-l.was))
