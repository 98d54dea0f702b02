-- `shown_value` meets its contract. Assumes nothing.
use borrow.Author.Rules.{rules}
use Rattle.sections.proofs.Showing.{name_shown, vector_shown, operator_shown, number_shown}
use Rattle.sections.proofs.shown_value.Goals as goal

pub returns-then-v-eq2 : goal.returns-then-v-eq2
returns-then-v-eq2 c = search (rules, name_shown)

pub returns-then-v-eq3 : goal.returns-then-v-eq3
returns-then-v-eq3 c = search (rules, vector_shown)

pub returns-then-v-eq4 : goal.returns-then-v-eq4
returns-then-v-eq4 c = search (rules, operator_shown)

pub returns : goal.returns
returns c = search (rules, number_shown)
