use Rattle.effects.proofs.Executing.{busy_lower}
use Rattle.effects.proofs.Working.{frame_there, call_none, call_made}
use native.Mathlib.Omega.{arith}
use mathlib.Core.Path.{refl}
use Rattle.state.proofs.Stacking.{tops_fit}
use Rattle.rides.proofs.Calling.{do_few, do_made, do_fails}
use Rattle.rides.proofs.run_operator.Goals as goal

pub returns-then-t-lt1 : goal.returns-then-t-lt1
returns-then-t-lt1 c = do_few _ _ c.requires.0 c.tops-t.ensures c.if-t-lt1.true refl

pub overflow_sub-q : goal.overflow_sub-q
overflow_sub-q c = tops_fit _ _ _ _ c.tops-t.ensures c.if-t-lt1.false

pub call-requires : goal.call-requires
call-requires c =
    (busy_lower 1 c.requires.0 refl, omega (arith, c.size.ensures.0, frame_there _ _ _ _ _ _ _ c.callee_of.ensures _ c.in-Some.is))

pub returns : goal.returns
returns c =
    do_made _ _ c.requires.0 c.tops-t.ensures c.if-t-lt1.false _ c.value_of.ensures _ _ _ _ c.in-Operator.is refl (call_made _ _ _ _ _ (busy_lower 1 c.requires.0 refl) c.callee_of.ensures _ _ c.in-Some.is c.size.ensures.0 c.call.ensures)

pub returns-in_default-callee_of : goal.returns-in_default-callee_of
returns-in_default-callee_of c =
    do_made _ _ c.requires.0 c.tops-t.ensures c.if-t-lt1.false _ c.value_of.ensures _ _ _ _ c.in-Operator.is refl (call_none _ _ _ _ _ (busy_lower 1 c.requires.0 refl) c.callee_of.ensures c.in_default-callee_of.is refl)

pub returns-in_default : goal.returns-in_default
returns-in_default c =
    do_fails _ _ c.requires.0 c.tops-t.ensures c.if-t-lt1.false _ c.value_of.ensures c.in_default.not-Operator refl
