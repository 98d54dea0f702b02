-- `control::arity` meets its contract. Assumes nothing.
use mathlib.Core.Logic.{inl, inr}
use native.Mathlib.Omega.{arith}
use Rattle.machine.specs.Ops.Control.{body_arity}
use Rattle.operators.proofs.control.arity.Goals as goal

pub returns-in-MakeSimpleCo : goal.returns-in-MakeSimpleCo
unfolding body_arity
returns-in-MakeSimpleCo c =
    elim c.in-MakeSimpleCo.is [
      | inl e ↦ (rw e, omega arith)
      | inr (inl e) ↦ (rw e, omega arith)
      | inr (inr e) ↦ (rw e, omega arith)
    ]

pub returns-in-If : goal.returns-in-If
unfolding body_arity
returns-in-If c =
    elim c.in-If.is [
      | inl e ↦ (rw e, omega arith)
      | inr e ↦ (rw e, omega arith)
    ]
