-- `stack::repeat` meets its contract. Assumes nothing.
use borrow.Author.Rules.{rules}
use Rattle.state.proofs.Stacking.{repeat_few, repeat_full, repeat_yes, few}
use native.Mathlib.Omega.{arith}
use Rattle.state.proofs.stack.repeat.Goals as goal

pub overflow_add-height : goal.overflow_add-height
overflow_add-height c = omega (arith, few _ _ c.requires c.has-there.ensures c.if-there.true)

pub returns-then-height-n-gt128 : goal.returns-then-height-n-gt128
returns-then-height-n-gt128 c = search (rules, repeat_full)

pub overflow_sub-height : goal.overflow_sub-height
overflow_sub-height c = omega (arith, few _ _ c.requires c.has-there.ensures c.if-there.true)

pub copy-requires : goal.copy-requires
copy-requires c =
    (omega (arith, few _ _ c.requires c.has-there.ensures c.if-there.true), omega (arith, few _ _ c.requires c.has-there.ensures c.if-there.true))

pub overflow_add-result : goal.overflow_add-result
overflow_add-result c = omega (arith, few _ _ c.requires c.has-there.ensures c.if-there.true)

pub returns-then-there : goal.returns-then-there
returns-then-there c = search (rules, repeat_yes)

pub returns : goal.returns
returns c = search (rules, repeat_few)
