-- `ends::landing` meets its contract. Assumes nothing.
use borrow.Author.Rules.{rules}
use Rattle.recovery.proofs.Recovering.{land_value, land_dead, land_here, land_left, land_bottom}
use Rattle.recovery.proofs.ends.landing.Goals as goal

pub loop-height-preserved-then-v-ne5 : goal.loop-height-preserved-then-v-ne5
loop-height-preserved-then-v-ne5 c = (search rules, search rules, search (rules, land_value))

pub loop-height-preserved-then-d-eq0 : goal.loop-height-preserved-then-d-eq0
loop-height-preserved-then-d-eq0 c = (search rules, search rules, search (rules, land_dead))

pub returns-then-c : goal.returns-then-c
returns-then-c c =
    record { lower = search rules; fewer = search rules; lands = land_here _ _ _ c.loop-height.invariant.2 _ c.get-v.ensures c.loop-height-test.true c.if-v-ne5.false _ c.find-d.ensures.1 _ c.get-c.ensures c.if-d-eq0.false c.if-c.true }

pub loop-height-preserved : goal.loop-height-preserved
loop-height-preserved c = (search rules, search rules, search (rules, land_left))

pub returns : goal.returns
returns c = record { lower = search rules; fewer = search rules; lands = search (rules, land_bottom) }
