-- `stack::tops` meets its contract. Assumes nothing.
use borrow.Author.Rules.{rules}
use Rattle.state.proofs.Stacking.{tops_empty, tops_mark, tops_one, tops_over, tops_two}
use Rattle.state.proofs.stack.tops.Goals as goal

pub returns-then-height-eq0 : goal.returns-then-height-eq0
returns-then-height-eq0 c = search (rules, tops_empty)

pub returns-then-first-eq5 : goal.returns-then-first-eq5
returns-then-first-eq5 c = search (rules, tops_mark)

pub returns-then-height-eq1 : goal.returns-then-height-eq1
returns-then-height-eq1 c = search (rules, tops_one)

pub returns-then-second-eq5 : goal.returns-then-second-eq5
returns-then-second-eq5 c = search (rules, tops_over)

pub returns : goal.returns
returns c = search (rules, tops_two)
