-- `cells::build` meets its contract. Assumes nothing.
use borrow.Author.Rules.{rules}
use Rattle.store.proofs.Charging.{build_short, build_few, build_full, build_over, build_yes}
use Rattle.store.proofs.cells.build.Goals as goal

pub returns-then-n-height : goal.returns-then-n-height
returns-then-n-height c = search (rules, build_short)

pub returns-then-height-n : goal.returns-then-height-n
returns-then-height-n c = search (rules, build_full)

pub returns-then-used-n-gt1024 : goal.returns-then-used-n-gt1024
returns-then-used-n-gt1024 c = search (rules, build_over)

pub returns-then-there : goal.returns-then-there
returns-then-there c = search (rules, build_yes)

pub returns : goal.returns
returns c = search (rules, build_few)
