-- `stack::arity` meets its contract. Assumes nothing.
use mathlib.Core.Logic.{inl, inr}
use native.Mathlib.Omega.{arith}
use Rattle.machine.specs.Ops.Stack.{stack_arity}
use Rattle.operators.proofs.stack.arity.Goals as goal

pub returns-in-Dup : goal.returns-in-Dup
unfolding stack_arity
returns-in-Dup c =
    elim c.in-Dup.is [
      | inl e ↦ (rw e, omega arith)
      | inr (inl e) ↦ (rw e, omega arith)
      | inr (inr (inl e)) ↦ (rw e, omega arith)
      | inr (inr (inr (inl e))) ↦ (rw e, omega arith)
      | inr (inr (inr (inr e))) ↦ (rw e, omega arith)
    ]

pub returns-in-Pop : goal.returns-in-Pop
unfolding stack_arity
returns-in-Pop c =
    elim c.in-Pop.is [
      | inl e ↦ (rw e, omega arith)
      | inr (inl e) ↦ (rw e, omega arith)
      | inr (inr (inl e)) ↦ (rw e, omega arith)
      | inr (inr (inr e)) ↦ (rw e, omega arith)
    ]

pub returns-in-Roll : goal.returns-in-Roll
unfolding stack_arity
returns-in-Roll c =
    elim c.in-Roll.is [
      | inl e ↦ (rw e, omega arith)
      | inr e ↦ (rw e, omega arith)
    ]
