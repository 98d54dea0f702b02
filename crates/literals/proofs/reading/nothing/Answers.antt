-- `reading::nothing` meets its contract. Assumes nothing.
use borrow.Author.Rules.{rules}
use Rattle.literals.proofs.Finding.{nothing_is}
use Rattle.literals.proofs.reading.nothing.Goals as goal

pub returns : goal.returns
returns c = search (rules, nothing_is)
