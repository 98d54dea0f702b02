-- `test::arity` meets its contract. Assumes nothing.
use mathlib.Core.Logic.{inl, inr}
use native.Mathlib.Omega.{arith}
use Rattle.machine.specs.Ops.Test.{test_arity}
use Rattle.operators.proofs.test.arity.Goals as goal

pub returns-in-Eq : goal.returns-in-Eq
unfolding test_arity
returns-in-Eq c =
    elim c.in-Eq.is [
      | inl e ↦ (rw e, omega arith)
      | inr (inl e) ↦ (rw e, omega arith)
      | inr (inr (inl e)) ↦ (rw e, omega arith)
      | inr (inr (inr (inl e))) ↦ (rw e, omega arith)
      | inr (inr (inr (inr e))) ↦ (rw e, omega arith)
    ]

pub returns-in-Not : goal.returns-in-Not
unfolding test_arity
returns-in-Not c =
    elim c.in-Not.is [
      | inl e ↦ (rw e, omega arith)
      | inr e ↦ (rw e, omega arith)
    ]
