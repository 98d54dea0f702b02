-- `slots::copy` meets its contract. Assumes nothing.
use borrow.Author.Rules.{rules}
use mathlib.Core.Path.{◌≡◌}
use Rattle.table.specs.Slots.{copied}
use native.Mathlib.Numerals.{add-one}
use native.Mathlib.Omega.{arith}
use Rattle.table.proofs.slots.copy.Goals as goal

pub loop-i-init : goal.loop-i-init
unfolding copied
loop-i-init c = search rules

pub loop-i-preserved : goal.loop-i-preserved
unfolding copied
loop-i-preserved c = (search rules, rw add-one (cc))

pub returns : goal.returns
returns c =
    let e : c.loop-i.i ≡ c.args.n = omega arith in rw (← e) c.loop-i.invariant.1
