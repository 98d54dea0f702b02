use Rattle.sprints.proofs.Swiftly.{settles}
use Rattle.rides.proofs.Calling.{paced_fails}
use Rattle.rides.proofs.pace_fault.Goals as goal

pub fault-requires : goal.fault-requires
fault-requires c = settles c.begin-s.ensures.busy

pub returns : goal.returns
returns c = paced_fails _ _ c.word.ensures c.begin-s.ensures c.fault.ensures
