-- `base` meets its contract. Assumes nothing.
use Rattle.marks.proofs.Counting.{count_clear, count_end, count_stop, count_next}
use native.Mathlib.Omega.{arith}
use Rattle.marks.proofs.base.Goals as goal

pub loop-i-init : goal.loop-i-init
loop-i-init c = (omega arith, count_clear _ c.args.height c.args.clear _ c.requires.2 (omega arith))

pub loop-i-preserved : goal.loop-i-preserved
loop-i-preserved c =
    (omega (arith, c.loop-i.invariant.0), count_next _ _ _ c.loop-i.invariant.0 c.loop-i.invariant.1 _ c.get.ensures c.loop-i-test.true c.if-get-ne5.true)

pub returns-else-get-ne5 : goal.returns-else-get-ne5
returns-else-get-ne5 c =
    (c.loop-i.invariant.0, count_stop _ _ _ c.loop-i.invariant.1 _ c.get.ensures c.loop-i-test.true c.if-get-ne5.false)

pub returns-after-loop-i : goal.returns-after-loop-i
returns-after-loop-i c = (c.loop-i.invariant.0, count_end _ _ _ c.loop-i.invariant.1 c.loop-i-test.false)
