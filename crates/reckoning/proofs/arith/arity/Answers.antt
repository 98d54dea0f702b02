-- `arith::arity` meets its contract. Assumes nothing.
use mathlib.Core.Logic.{inl, inr}
use native.Mathlib.Omega.{arith}
use Rattle.machine.specs.Ops.Arith.{arith_arity}
use Rattle.reckoning.proofs.arith.arity.Goals as goal

pub returns-in-Neg : goal.returns-in-Neg
unfolding arith_arity
returns-in-Neg c =
    elim c.in-Neg.is [
      | inl e ↦ (rw e, omega arith)
      | inr (inl e) ↦ (rw e, omega arith)
      | inr (inr (inl e)) ↦ (rw e, omega arith)
      | inr (inr (inr (inl e))) ↦ (rw e, omega arith)
      | inr (inr (inr (inr (inl e)))) ↦ (rw e, omega arith)
      | inr (inr (inr (inr (inr e)))) ↦ (rw e, omega arith)
    ]

pub returns-in-Add : goal.returns-in-Add
unfolding arith_arity
returns-in-Add c =
    elim c.in-Add.is [
      | inl e ↦ (rw e, omega arith)
      | inr (inl e) ↦ (rw e, omega arith)
      | inr (inr (inl e)) ↦ (rw e, omega arith)
      | inr (inr (inr (inl e))) ↦ (rw e, omega arith)
      | inr (inr (inr (inr (inl e)))) ↦ (rw e, omega arith)
      | inr (inr (inr (inr (inr e)))) ↦ (rw e, omega arith)
    ]
