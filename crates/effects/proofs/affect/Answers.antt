-- `affect` meets its contract. Assumes nothing.
use borrow.Author.Rules.{rules}
use Rattle.effects.proofs.Acting.{is_fail, is_gives, is_gives2, is_acts}
use Rattle.effects.proofs.affect.Goals as goal

pub returns-in-None : goal.returns-in-None
returns-in-None c = search (rules, is_fail)

pub returns-in-Some-Gives : goal.returns-in-Some-Gives
returns-in-Some-Gives c = search (rules, is_gives)

pub returns-in-Some-Gives2 : goal.returns-in-Some-Gives2
returns-in-Some-Gives2 c = search (rules, is_gives2)

pub returns-in-Some-Acts : goal.returns-in-Some-Acts
returns-in-Some-Acts c = search (rules, is_acts)
