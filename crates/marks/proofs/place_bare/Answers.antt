-- `place_bare` meets its contract. Assumes nothing.
use borrow.Author.Rules.{rules}
use Rattle.marks.proofs.Marking.{bare_full, bare_yes}
use Rattle.marks.proofs.place_bare.Goals as goal

pub returns-then-height-ge128 : goal.returns-then-height-ge128
returns-then-height-ge128 c = search (rules, bare_full)

pub returns : goal.returns
returns c = search (rules, bare_yes)
