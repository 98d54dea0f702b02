-- `bodies::begin` meets its contract. Assumes nothing.
use borrow.Author.Rules.{rules}
use Rattle.contexts.proofs.Entering.{begin_done}
use Rattle.contexts.proofs.bodies.begin.Goals as goal

pub returns : goal.returns
returns c = search (rules, begin_done)
