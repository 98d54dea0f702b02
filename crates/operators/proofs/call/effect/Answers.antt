-- `call::effect` meets its contract. Assumes nothing.
use mathlib.Core.Logic.{inl, inr}
use Rattle.machine.specs.Ops.Call.{call_effect}
use Rattle.operators.proofs.call.effect.Goals as goal

pub returns : goal.returns
unfolding call_effect
returns c =
    elim c.in-Do.is [
      | inl e ↦ rw e c.called.ensures
      | inr (inl e) ↦ rw e c.called.ensures
      | inr (inr e) ↦ rw e c.called.ensures
    ]
