-- `vector::arity` meets its contract. Assumes nothing.
use mathlib.Core.Path.{refl}
use mathlib.Core.Logic.{inl, inr}
use native.Mathlib.Omega.{arith}
use Rattle.machine.specs.Ops.Vector.{vector_arity}
use Rattle.reckoning.proofs.vector.arity.Goals as goal

pub returns-in-Get : goal.returns-in-Get
unfolding vector_arity
returns-in-Get c = elim c.in-Get.is [ inl e ↦ rw e (refl, omega arith) | inr e ↦ rw e (refl, omega arith) ]

pub returns-in-MakeVec : goal.returns-in-MakeVec
unfolding vector_arity
returns-in-MakeVec c = elim c.in-MakeVec.is [ inl e ↦ (rw e, omega arith) | inr e ↦ (rw e, omega arith) ]
