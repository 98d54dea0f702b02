use Rattle.sprints.proofs.Rows.{place_fits}
use Rattle.rides.proofs.Calling.{settles_within, faults_within, bytes_begun, paced_settles, paced_faults}
use mathlib.Core.Path.{◌∙◌}
use Rattle.rides.proofs.pace_if.Goals as goal

pub word-requires : goal.word-requires
word-requires c = place_fits _ _ _ c.past_comments-past.ensures c.requires.5 c.requires.3

pub settle-requires : goal.settle-requires
settle-requires c = settles_within _ _ _ c.begin-s.ensures c.if_so.ensures.1 c.in-Some.is

pub returns-in-Some : goal.returns-in-Some
returns-in-Some c =
    λ code eb. paced_settles code _ _ _ (c.word.ensures ∙ c.past_comments-past.ensures) c.begin-s.ensures (c.if_so.ensures.1 code (bytes_begun code _ _ c.begin-s.ensures eb)) c.in-Some.is c.settle.ensures

pub fault-requires : goal.fault-requires
fault-requires c = faults_within _ _ _ c.begin-s.ensures c.if_so.ensures.1 c.in-None.is c.counted.ensures

pub returns-in-None : goal.returns-in-None
returns-in-None c =
    λ code eb. paced_faults code _ _ _ (c.word.ensures ∙ c.past_comments-past.ensures) c.begin-s.ensures (c.if_so.ensures.1 code (bytes_begun code _ _ c.begin-s.ensures eb)) c.in-None.is c.counted.ensures c.fault.ensures
