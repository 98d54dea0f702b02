-- `slots::copy_long` meets its contract: it moves the bytes one by one, and those of whole slots are the slots. Assumes nothing.
use borrow.Author.Rules.{rules}
use mathlib.Core.Path.{◌≡◌}
use Prim.Native.Nat.{◌*◌}
use native.Mathlib.Numerals.{add-one}
use native.Mathlib.Omega.{arith}
use Rattle.table.proofs.Runs.{moved, slots_moved}
use Rattle.table.proofs.slots.copy_long.Goals as goal

pub loop-i-init : goal.loop-i-init
unfolding moved
loop-i-init c = search rules

pub loop-i-preserved : goal.loop-i-preserved
unfolding moved
loop-i-preserved c = (search rules, rw add-one (cc))

pub returns : goal.returns
returns c =
    let a = c.args in let e : c.loop-i.i ≡ 20 * a.n = omega arith in rw (c.loop-i.invariant.1, e) (slots_moved a.w.now a.s a.d a.n (omega arith) (omega arith))
