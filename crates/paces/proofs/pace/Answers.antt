-- `pace` meets its contract. Assumes nothing.
use native.Mathlib.Omega.{arith}
use Rattle.origins.proofs.ByOrigin.{ends_fit}
use Rattle.paces.proofs.Pacing.{done_same, stepped_same}
use Rattle.sprints.proofs.Swiftly.{attempted}
use Rattle.sprints.proofs.Swiftly.{faults}
use Rattle.paces.proofs.Pacing.{ready_now, counted_there, pace_settles, pace_faults}
use Rattle.paces.proofs.pace.Goals as goal

pub pace_noting-requires : goal.pace_noting-requires
pace_noting-requires c = rw c.afresh.ensures c.requires

pub returns-in_default : goal.returns-in_default
returns-in_default c =
    (stepped_same c.afresh.ensures c.afresh-in_default.ensures c.pace_noting.ensures.0, c.pace_noting.ensures.1)

pub word-requires : goal.word-requires
word-requires c =
    omega (arith, c.in-Some.ensures.inside, ends_fit _ _ _ c.running-c.result.origin c.bytes_of-b.ensures c.requires.4)

pub returns-in-Some-operator : goal.returns-in-Some-operator
returns-in-Some-operator c =
    (pace_settles _ _ (attempted (ready_now _ _ _ c.running-c.result _ c.requires.0 c.requires.1 c.requires.2 c.requires.3 c.running-c.ensures c.bytes_of-b.ensures c.size.ensures.0) _ _ c.word.ensures c.begin-s.ensures _ c.in-Some.ensures.there c.operator.ensures) c.in-Some-operator.is (done_same c.afresh-in-Some-operator.ensures c.settle.ensures), c.requires.5)

pub fault-requires : goal.fault-requires
fault-requires c =
    faults _ c.begin-s.ensures c.operator.ensures c.in-None.is (counted_there _ _ c.counted-q.ensures (omega arith))

pub returns-in-None : goal.returns-in-None
returns-in-None c =
    let q = counted_there _ _ c.counted-q.ensures (omega arith) in
    (pace_faults _ _ (attempted (ready_now _ _ _ c.running-c.result _ c.requires.0 c.requires.1 c.requires.2 c.requires.3 c.running-c.ensures c.bytes_of-b.ensures c.size.ensures.0) _ _ c.word.ensures c.begin-s.ensures _ c.in-Some.ensures.there c.operator.ensures) c.in-None.is q (done_same c.afresh-in-None.ensures c.fault.ensures), c.requires.5)
