-- `bodies::go_to` meets its contract. Assumes nothing.
use borrow.Author.Rules.{rules}
use Rattle.contexts.proofs.Entering.{goes_is}
use Rattle.contexts.proofs.bodies.go_to.Goals as goal

pub returns : goal.returns
returns c = search (rules, goes_is)
