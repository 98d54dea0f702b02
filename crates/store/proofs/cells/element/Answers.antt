-- `cells::element` meets its contract. Assumes nothing.
use borrow.Author.Rules.{rules}
use Rattle.state.proofs.Coding.{zero_plain}
use Rattle.state.proofs.Framing.{element_far, element_push}
use Rattle.store.proofs.cells.element.Goals as goal

pub push_slot-requires : goal.push_slot-requires
push_slot-requires c = (search rules, search (rules, zero_plain))

pub returns-then-k-r : goal.returns-then-k-r
returns-then-k-r c = search (rules, element_far)

pub returns : goal.returns
returns c = search (rules, element_push)
