-- `stack::has` meets its contract. Assumes nothing.
use mathlib.Core.Path.{◌≡◌}
use Prim.Native.Nat.{◌+◌, ◌-◌}
use native.Mathlib.Omega.{arith}
use borrow.Author.Rules.{rules}
use Rattle.table.specs.Slots.{slots}
use Rattle.state.proofs.Stacking.{has_few, has_mark, has_more}
use Rattle.state.proofs.stack.has.Goals as goal

pub returns-then-n-height : goal.returns-then-n-height
returns-then-n-height c = search (rules, has_few)

pub returns-then-get-eq5 : goal.returns-then-get-eq5
returns-then-get-eq5 c =
    let a = c.args in
    let i = c.loop-i.i in
    let e : a.height - 1 - i ≡ a.height - i - 1 = omega arith in
    has_mark (slots a.w.now) (a.height - i) (a.n - i) c.loop-i.invariant c.get.result (rw e at c.get.ensures) (omega arith) (omega arith) c.if-get-eq5.true

pub loop-i-preserved : goal.loop-i-preserved
loop-i-preserved c =
    let a = c.args in
    let i = c.loop-i.i in
    let e : a.height - 1 - i ≡ a.height - i - 1 = omega arith in
    let f : a.height - (i + 1) ≡ a.height - i - 1 = omega arith in
    let g : a.n - (i + 1) ≡ a.n - i - 1 = omega arith in
    rw (f, g) (has_more (slots a.w.now) (a.height - i) (a.n - i) c.loop-i.invariant c.get.result (rw e at c.get.ensures) (omega arith) (omega arith) c.if-get-eq5.false)
