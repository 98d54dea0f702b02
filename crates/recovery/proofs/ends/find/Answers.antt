-- `ends::find` meets its contract. Assumes nothing.
use mathlib.Core.Path.{◌≡◌, sym}
use native.Mathlib.Omega.{arith}
use borrow.Author.Rules.{rules}
use Rattle.table.specs.Slots.{slots}
use Rattle.recovery.proofs.Recovering.{find_none, find_here, find_on}
use Rattle.recovery.proofs.ends.find.Goals as goal

pub loop-i-preserved : goal.loop-i-preserved
loop-i-preserved c =
    (search rules, find_on (slots c.args.w.now) c.args.k c.loop-i.i c.loop-i.invariant.1 _ c.get.ensures c.loop-i-test.true (λ e. c.if-get-k.true (sym e)))

pub returns-else-get-k : goal.returns-else-get-k
returns-else-get-k c =
    (search rules, find_here (slots c.args.w.now) c.args.k c.loop-i.i c.loop-i.invariant.1 _ c.get.ensures c.loop-i-test.true (sym c.if-get-k.false))

pub returns-after-loop-i : goal.returns-after-loop-i
returns-after-loop-i c =
    let e : c.loop-i.i ≡ 0 = omega arith in
    (c.loop-i.invariant.0, rw e (find_none (slots c.args.w.now) c.args.k c.loop-i.i c.loop-i.invariant.1 c.loop-i-test.false))
