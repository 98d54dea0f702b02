-- `outcome_of` meets its contract. Assumes nothing.
use Rattle.rows.proofs.Rowing.{still_going, by_recovery, normally}
use Rattle.rows.proofs.outcome_of.Goals as goal

pub returns-then-q-gt0 : goal.returns-then-q-gt0
returns-then-q-gt0 c = still_going c.args.q c.if-q-gt0.true

pub returns-then-q : goal.returns-then-q
returns-then-q c = by_recovery c.args.q c.if-q-gt0.false c.if-q.true

pub returns : goal.returns
returns c = normally c.args.q c.if-q-gt0.false c.if-q.false
