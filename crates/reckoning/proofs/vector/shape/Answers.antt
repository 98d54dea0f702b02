-- `vector::shape` meets its contract. Assumes nothing.
use Rattle.machine.specs.Ops.Vector.{vector_effect}
use Rattle.operands.proofs.Reading.{no_vector, is_vector}
use Rattle.reckoning.proofs.vector.shape.Goals as goal

pub returns-in_default : goal.returns-in_default
unfolding vector_effect
returns-in_default c = (λ y. no_vector c.args.x _ c.in_default.not-Vector, tt)

pub returns : goal.returns
unfolding vector_effect
returns c = (λ y. rw (c.natural.ensures, c.natural-2.ensures) (is_vector _ c.in-Vector.is), tt)
