-- `frame::arity` meets its contract. Assumes nothing.
use mathlib.Core.Logic.{inl, inr}
use native.Mathlib.Omega.{arith}
use Rattle.machine.specs.Ops.Frame.{frame_arity}
use Rattle.operators.proofs.frame.arity.Goals as goal

pub returns : goal.returns
unfolding frame_arity
returns c =
    elim c.in-Fget.is [
      | inl e ↦ (rw e, omega arith)
      | inr e ↦ (rw e, omega arith)
    ]
