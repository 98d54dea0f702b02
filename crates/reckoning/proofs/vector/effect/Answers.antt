-- `vector::effect` meets its contract. Assumes nothing.
use native.Mathlib.Omega.{arith}
use Rattle.machine.specs.Ops.Vector.{vector_effect}
use Rattle.operands.proofs.Reading.{nothing, no_card, is_card}
use Rattle.reckoning.proofs.vector.effect.Goals as goal

pub returns-in-Get : goal.returns-in-Get
returns-in-Get c = rw c.in-Get.is c.get.ensures

pub returns-in-MakeVecLu : goal.returns-in-MakeVecLu
returns-in-MakeVecLu c = rw c.in-MakeVecLu.is c.make_vec_lu.ensures

pub returns-in_err-count-in-MakeVec : goal.returns-in_err-count-in-MakeVec
unfolding vector_effect
returns-in_err-count-in-MakeVec c = rw c.in-MakeVec.is (nothing c.from_residual.ensures (no_card _ _ c.cardinal.ensures.0 c.in_err-count-in-MakeVec.was))

pub returns-in_ok-count-in-MakeVec : goal.returns-in_ok-count-in-MakeVec
unfolding vector_effect
returns-in_ok-count-in-MakeVec c = rw c.in-MakeVec.is (is_card _ _ c.cardinal.ensures.0 c.in_ok-count-in-MakeVec.was, omega arith)

pub returns-in-Shape : goal.returns-in-Shape
returns-in-Shape c = rw c.in-Shape.is (c.shape.ensures.0 c.args.y, c.shape.ensures.1)
