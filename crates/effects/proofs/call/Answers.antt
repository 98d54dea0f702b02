-- `call` meets its contract. Assumes nothing.
use mathlib.Core.Path.{refl}
use native.Mathlib.Omega.{arith}
use Rattle.effects.proofs.Working.{frame_there, call_none, call_made}
use Rattle.effects.proofs.call.Goals as goal

pub call-requires : goal.call-requires
call-requires c =
    (c.requires.0, omega (arith, c.size.ensures.0, frame_there _ _ _ _ _ _ _ c.callee_of.ensures _ c.in-Some.is))

pub returns-in_default : goal.returns-in_default
returns-in_default c = call_none _ _ _ _ _ c.requires.0 c.callee_of.ensures c.in_default.is refl

pub returns : goal.returns
returns c =
    call_made _ _ _ _ _ c.requires.0 c.callee_of.ensures _ _ c.in-Some.is c.size.ensures.0 c.call.ensures
