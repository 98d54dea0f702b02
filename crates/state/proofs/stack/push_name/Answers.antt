-- `stack::push_name` meets its contract. Assumes nothing.
use borrow.Author.Rules.{rules}
use Rattle.state.proofs.Coding.{name_slot}
use Rattle.state.proofs.Stacking.{name_push}
use Rattle.state.proofs.stack.push_name.Goals as goal

pub push_slot-requires : goal.push_slot-requires
push_slot-requires c = (search rules, search (rules, name_slot))

pub returns : goal.returns
returns c = search (rules, name_push)
