use Rattle.sprints.proofs.Swiftly.{faults, may_settle}
use Rattle.rides.proofs.Calling.{paced_settles, paced_faults}
use Rattle.rides.proofs.pace_do.Goals as goal

pub settle-requires : goal.settle-requires
settle-requires c = may_settle c.run_operator.ensures c.in-Some.is

pub returns-in-Some : goal.returns-in-Some
returns-in-Some c = paced_settles _ _ _ _ c.word.ensures c.begin-s.ensures c.run_operator.ensures c.in-Some.is c.settle.ensures

pub fault-requires : goal.fault-requires
fault-requires c = faults _ c.begin-s.ensures c.run_operator.ensures c.in-None.is c.counted.ensures

pub returns-in-None : goal.returns-in-None
returns-in-None c =
    paced_faults _ _ _ _ c.word.ensures c.begin-s.ensures c.run_operator.ensures c.in-None.is c.counted.ensures c.fault.ensures
