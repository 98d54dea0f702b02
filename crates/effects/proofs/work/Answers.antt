-- `work` meets its contract. Assumes nothing.
use borrow.Author.Rules.{rules}
use Rattle.effects.proofs.Acting.{sized_build, nothing_done, at_nothing, at_fetch, at_element, at_build, at_spell, at_utter, at_compose, at_repeat, at_turn, at_match, at_report}
use Rattle.effects.proofs.work.Goals as goal

pub build-requires : goal.build-requires
build-requires c = (search rules, search (rules, sized_build))

pub returns-in-Nothing : goal.returns-in-Nothing
returns-in-Nothing c = search (rules, at_nothing, nothing_done)

pub returns-in-Fetch : goal.returns-in-Fetch
returns-in-Fetch c = search (rules, at_fetch)

pub returns-in-Element : goal.returns-in-Element
returns-in-Element c = search (rules, at_element)

pub returns-in-Build : goal.returns-in-Build
returns-in-Build c = search (rules, at_build)

pub returns-in-Spell : goal.returns-in-Spell
returns-in-Spell c = search (rules, at_spell)

pub returns-in-Utter : goal.returns-in-Utter
returns-in-Utter c = search (rules, at_utter)

pub returns-in-Compose : goal.returns-in-Compose
returns-in-Compose c = search (rules, at_compose)

pub returns-in-Repeat : goal.returns-in-Repeat
returns-in-Repeat c = search (rules, at_repeat)

pub returns-in-Turn : goal.returns-in-Turn
returns-in-Turn c = search (rules, at_turn)

pub returns-in-Match : goal.returns-in-Match
returns-in-Match c = search (rules, at_match)

pub returns-in-Report : goal.returns-in-Report
returns-in-Report c = at_report _ _ _ c.in-Report.is (c.report.ensures _)
