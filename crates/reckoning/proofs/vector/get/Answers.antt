-- `vector::get` meets its contract. Assumes nothing.
use mathlib.Core.Path.{◌∙◌}
use Rattle.machine.specs.Ops.Vector.{vector_effect}
use Rattle.machine.specs.Operand.{only_if}
use Rattle.operands.proofs.Reading.{nothing, no_vector, no_card, is_card, is_vector, when_so, when_not}
use Rattle.reckoning.proofs.Indexing.{too_low, too_high, in_bounds}
use Rattle.reckoning.proofs.vector.get.Goals as goal
use Rattle.reckoning.proofs.vector.get.Goals.{then-j-lower-via-then-j-lower, then-j-lower-via-else-j-lower+then-j-lower-2}

pub returns-in_err-j : goal.returns-in_err-j
unfolding vector_effect
returns-in_err-j c = nothing c.from_residual.ensures (no_card _ _ c.cardinal.ensures.0 c.in_err-j.was)

pub returns-in_default : goal.returns-in_default
unfolding vector_effect
returns-in_default c = (no_vector c.args.y _ c.in_default.not-Vector ∙ is_card _ _ c.cardinal.ensures.0 c.in_ok-j.was, tt)

pub returns-then-j-lower : goal.returns-then-j-lower
unfolding vector_effect only_if
returns-then-j-lower c =
    elim c.then-j-lower.branch [
      | then-j-lower-via-then-j-lower w ↦ (when_not _ _ (too_low _ _ _ w.if-j-lower.true) ∙ is_vector _ c.in-Vector.is ∙ is_card _ _ c.cardinal.ensures.0 c.in_ok-j.was, tt)
      | then-j-lower-via-else-j-lower+then-j-lower-2 w ↦
          (when_not _ _ (too_high _ _ _ w.if-j-lower.false w.if-j-lower-2.true) ∙ is_vector _ c.in-Vector.is ∙ is_card _ _ c.cardinal.ensures.0 c.in_ok-j.was, tt)
    ]

pub returns : goal.returns
unfolding vector_effect only_if
returns c =
    (when_so _ _ (in_bounds _ _ _ c.if-j-lower.false c.if-j-lower-2.false) ∙ is_vector _ c.in-Vector.is ∙ is_card _ _ c.cardinal.ensures.0 c.in_ok-j.was, tt)
