-- `stack::effect` meets its contract. Assumes nothing.
use mathlib.Core.Path.{refl}
use mathlib.Core.Logic.{inl, inr}
use Rattle.machine.specs.Ops.Stack.{stack_effect}
use Rattle.operands.proofs.Reading.{nothing, no_card, is_card}
use Rattle.operators.proofs.stack.effect.Goals as goal

pub returns-in-Pop : goal.returns-in-Pop
unfolding stack_effect
returns-in-Pop c = elim c.in-Pop.is [ inl e ↦ rw e (refl, tt) | inr e ↦ rw e (refl, tt) ]

pub returns-in_err-count-in-Copy : goal.returns-in_err-count-in-Copy
unfolding stack_effect
returns-in_err-count-in-Copy c =
    rw c.in-Copy.is (nothing c.from_residual.ensures (no_card _ _ c.cardinal.ensures.0 c.in_err-count-in-Copy.was))

pub returns-in_ok-count-in-Copy : goal.returns-in_ok-count-in-Copy
unfolding stack_effect
returns-in_ok-count-in-Copy c = rw c.in-Copy.is (is_card _ _ c.cardinal.ensures.0 c.in_ok-count-in-Copy.was, tt)

pub returns-in_err-count-in-Mark : goal.returns-in_err-count-in-Mark
unfolding stack_effect
returns-in_err-count-in-Mark c =
    rw c.in-Mark.is (nothing c.from_residual-in_err-count-in-Mark.ensures (no_card _ _ c.cardinal-in-Mark.ensures.0 c.in_err-count-in-Mark.was))

pub returns-in_ok-count-in-Mark : goal.returns-in_ok-count-in-Mark
unfolding stack_effect
returns-in_ok-count-in-Mark c = rw c.in-Mark.is (is_card _ _ c.cardinal-in-Mark.ensures.0 c.in_ok-count-in-Mark.was, tt)

pub returns-in_err-count-in-Unmark : goal.returns-in_err-count-in-Unmark
unfolding stack_effect
returns-in_err-count-in-Unmark c =
    rw c.in-Unmark.is (nothing c.from_residual-in_err-count-in-Unmark.ensures (no_card _ _ c.cardinal-in-Unmark.ensures.0 c.in_err-count-in-Unmark.was))

pub returns-in_ok-count-in-Unmark : goal.returns-in_ok-count-in-Unmark
unfolding stack_effect
returns-in_ok-count-in-Unmark c = rw c.in-Unmark.is (is_card _ _ c.cardinal-in-Unmark.ensures.0 c.in_ok-count-in-Unmark.was, tt)

pub returns-in-Dup : goal.returns-in-Dup
unfolding stack_effect
returns-in-Dup c = rw c.in-Dup.is (refl, tt)

pub returns-in-Exch : goal.returns-in-Exch
unfolding stack_effect
returns-in-Exch c = rw c.in-Exch.is (refl, tt)

pub returns-in-Unmark0 : goal.returns-in-Unmark0
unfolding stack_effect
returns-in-Unmark0 c = rw c.in-Unmark0.is (refl, tt)

pub returns-in-Count : goal.returns-in-Count
unfolding stack_effect
returns-in-Count c = rw c.in-Count.is (refl, tt)

pub returns-in-Roll : goal.returns-in-Roll
returns-in-Roll c = rw c.in-Roll.is c.roll.ensures

pub returns-in-Error : goal.returns-in-Error
returns-in-Error c = rw c.in-Error.is c.error.ensures
