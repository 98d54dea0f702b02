-- `shown` meets its contract. Assumes nothing.
use borrow.Author.Rules.{rules}
use Rattle.sections.proofs.Showing.{mark_shown, value_shown, unmarked_shown}
use Rattle.sections.proofs.shown.Goals as goal

pub returns-then-v-eq5 : goal.returns-then-v-eq5
returns-then-v-eq5 c = search (rules, mark_shown)

pub returns-then-marks : goal.returns-then-marks
returns-then-marks c = search (rules, value_shown)

pub returns : goal.returns
returns c = search (rules, unmarked_shown)
