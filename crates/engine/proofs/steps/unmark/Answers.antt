use mathlib.Core.Path.{refl}
use Rattle.sprints.proofs.Swiftly.{is_unmark, faults, may_settle}
use Rattle.rides.proofs.Calling.{paced_settles, paced_faults}
use Rattle.engine.proofs.steps.unmark.Goals as goal

pub settle-requires : goal.settle-requires
settle-requires c = may_settle c.remove.ensures c.in-Some.is

pub returns-in-Some : goal.returns-in-Some
returns-in-Some c =
    λ code. paced_settles code _ _ _ c.word.ensures c.begin-s.ensures (is_unmark code 192 _ refl c.remove.ensures) c.in-Some.is c.settle.ensures

pub fault-requires : goal.fault-requires
fault-requires c = faults _ c.begin-s.ensures c.remove.ensures c.in-None.is c.counted.ensures

pub returns-in-None : goal.returns-in-None
returns-in-None c =
    λ code. paced_faults code _ _ _ c.word.ensures c.begin-s.ensures (is_unmark code 192 _ refl c.remove.ensures) c.in-None.is c.counted.ensures c.fault.ensures
