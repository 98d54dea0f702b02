-- `ends::skipped` meets its contract. Assumes nothing.
use borrow.Author.Rules.{rules}
use Rattle.state.proofs.Ending.{skip_stop, skip_left}
use Rattle.recovery.proofs.ends.skipped.Goals as goal

pub returns-then-c : goal.returns-then-c
returns-then-c c = search (rules, skip_stop)

pub returns : goal.returns
returns c = search (rules, skip_left)
