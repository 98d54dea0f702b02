-- `stack::push_slot` meets its contract. Assumes nothing.
use borrow.Author.Rules.{rules}
use Rattle.state.proofs.Stacking.{push_no, push_yes}
use Rattle.state.proofs.stack.push_slot.Goals as goal

pub returns-then-height-ge128 : goal.returns-then-height-ge128
returns-then-height-ge128 c = search (rules, push_no)

pub returns : goal.returns
returns c = search (rules, push_yes)
