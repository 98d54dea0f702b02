-- `stack::turn` meets its contract. Assumes nothing.
use borrow.Author.Rules.{rules}
use Rattle.state.proofs.Stacking.{few, turn_few, turn_yes}
use native.Mathlib.Omega.{arith}
use Rattle.state.proofs.stack.turn.Goals as goal

pub overflow_sub-height : goal.overflow_sub-height
overflow_sub-height c = omega (arith, few _ _ c.requires c.has-there.ensures c.if-there.true)

pub put_turned-requires : goal.put_turned-requires
put_turned-requires c =
    (omega (arith, few _ _ c.requires c.has-there.ensures c.if-there.true), omega (arith, few _ _ c.requires c.has-there.ensures c.if-there.true), omega (arith, few _ _ c.requires c.has-there.ensures c.if-there.true))

pub returns-then-there : goal.returns-then-there
returns-then-there c = search (rules, turn_yes)

pub returns : goal.returns
returns c = search (rules, turn_few)
