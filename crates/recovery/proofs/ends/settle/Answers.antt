-- `ends::settle` meets its contract. Assumes nothing.
use borrow.Author.Rules.{rules}
use Rattle.state.proofs.Parts.{aside_put}
use mathlib.Core.Path.{refl}
use Rattle.state.proofs.Ending.{left_good, paid_good, leave_all, leave_stop, leave_on, leave_pay, leave_full}
use Rattle.recovery.proofs.ends.settle.Goals as goal

pub returns-then-c : goal.returns-then-c
returns-then-c c =
    record { good = search rules; does = search (rules, leave_stop); keeps = search rules; counted = search rules }

pub loop-r-preserved-then-c-lt4096 : goal.loop-r-preserved-then-c-lt4096
loop-r-preserved-then-c-lt4096 c =
    (search (rules, left_good), search rules, search rules, search rules, search rules, search (rules, leave_on))

pub fault-requires : goal.fault-requires
fault-requires c = search (rules, left_good)

pub returns-then-height-ge128 : goal.returns-then-height-ge128
returns-then-height-ge128 c =
    record { good = search rules; does = leave_full _ _ c.loop-r.invariant.5 _ c.get-c.ensures c.loop-r-test.true c.if-c.false c.if-c-lt4096.false c.if-height-ge128.true refl c.fault.ensures; keeps = search rules; counted = search rules }

pub loop-r-preserved : goal.loop-r-preserved
loop-r-preserved c =
    (search (rules, paid_good), search rules, search rules, search (rules, aside_put), search rules, leave_pay _ _ c.loop-r.invariant.5 _ c.get-c.ensures c.loop-r-test.true c.if-c.false _ _ c.loop-r.invariant.0 c.if-c-lt4096.false c.if-height-ge128.false c.zero.ensures c.put.ensures refl)

pub returns : goal.returns
returns c =
    record { good = search rules; does = search (rules, leave_all); keeps = search rules; counted = search rules }
