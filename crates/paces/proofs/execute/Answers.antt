-- `execute` meets its contract. Assumes nothing.
use borrow.Author.Rules.{rules}
use Rattle.sprints.proofs.Swiftly.{by_figure, by_name}
use Rattle.paces.proofs.Pacing.{by_text, by_plain, by_holder, sized_holder}
use Rattle.paces.proofs.execute.Goals as goal

pub holder-requires : goal.holder-requires
holder-requires c = (search rules, search rules, search (rules, sized_holder))

pub returns-in-Figure : goal.returns-in-Figure
returns-in-Figure c = search (rules, by_figure)

pub returns-in-Name : goal.returns-in-Name
returns-in-Name c = search (rules, by_name)

pub returns-in-Text : goal.returns-in-Text
returns-in-Text c = search (rules, by_text)

pub returns-in-Plain : goal.returns-in-Plain
returns-in-Plain c = search (rules, by_plain)

pub returns-in-WithBody : goal.returns-in-WithBody
returns-in-WithBody c = search (rules, by_holder)
