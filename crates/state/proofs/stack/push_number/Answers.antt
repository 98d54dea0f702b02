-- `stack::push_number` meets its contract. Assumes nothing.
use borrow.Author.Rules.{rules}
use Rattle.state.proofs.Stacking.{push_as}
use Rattle.state.proofs.stack.push_number.Goals as goal

pub returns : goal.returns
returns c = search (rules, push_as)
