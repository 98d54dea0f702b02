-- `Family::affect` meets its contract. Assumes nothing.
use borrow.Author.Rules.{rules}
use Rattle.effects.proofs.Acting.{is_gives}
use Rattle.families.proofs.Family.affect.Goals as goal

pub returns-in-Some-Gives : goal.returns-in-Some-Gives
returns-in-Some-Gives g c = search (rules, is_gives)
