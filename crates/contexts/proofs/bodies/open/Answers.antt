-- `bodies::open` meets its contract. Assumes nothing.
use borrow.Author.Rules.{rules}
use Rattle.contexts.proofs.Entering.{open_none, open_some}
use Rattle.contexts.proofs.bodies.open.Goals as goal

pub returns-then-at-end : goal.returns-then-at-end
returns-then-at-end c = search (rules, open_some)

pub returns : goal.returns
returns c = search (rules, open_none)
