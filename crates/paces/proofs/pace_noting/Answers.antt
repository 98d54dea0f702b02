-- `pace_noting` meets its contract. Assumes nothing.
use mathlib.Core.Path.{refl}
use Rattle.paces.proofs.Pacing.{stands_now, ready_now, pace_may_settle, pace_settles, pace_recovers, pace_faults}
use Rattle.paces.proofs.pace_noting.Goals as goal

pub literal-requires : goal.literal-requires
literal-requires c =
    (ready_now _ _ _ c.running-c.result _ c.requires.0 c.requires.1 c.requires.2 c.requires.3 c.running-c.ensures refl c.size.ensures.0, c.requires.4, c.requires.5, stands_now _ c.args.r _ _ _ c.running-c.result _ c.requires.6 c.requires.1 c.running-c.ensures refl c.size.ensures.0)

pub returns-in-Some : goal.returns-in-Some
returns-in-Some c = (pace_settles _ _ c.literal.ensures.0 c.in-Some.is c.settle.ensures, c.literal.ensures.1)

pub settle-requires : goal.settle-requires
settle-requires c = pace_may_settle _ _ c.literal.ensures.0 c.in-Some.is

pub fault-requires : goal.fault-requires
fault-requires c = pace_recovers _ _ c.literal.ensures.0 c.requires.0 c.in-None.is c.counted.ensures

pub returns-in-None : goal.returns-in-None
returns-in-None c = (pace_faults _ _ c.literal.ensures.0 c.in-None.is c.counted.ensures c.fault.ensures, c.literal.ensures.1)
