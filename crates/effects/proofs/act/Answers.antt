-- `act` meets its contract. Assumes nothing.
use borrow.Author.Rules.{rules}
use Rattle.effects.proofs.Acting.{sized_works, sized_inline, by_works, by_inline, by_call, by_store, by_place, by_remove, by_tally, marks_low}
use Rattle.effects.proofs.act.Goals as goal

pub work-requires : goal.work-requires
work-requires c = (search rules, search (rules, sized_works))

pub inline-requires : goal.inline-requires
inline-requires c = (search rules, search rules, search (rules, sized_inline))

pub tally-requires : goal.tally-requires
tally-requires c = (search rules, marks_low _ _)

pub returns-in-Works : goal.returns-in-Works
returns-in-Works c = search (rules, by_works)

pub returns-in-Inline : goal.returns-in-Inline
returns-in-Inline c = search (rules, by_inline)

pub returns-in-Call : goal.returns-in-Call
returns-in-Call c = search (rules, by_call)

pub returns-in-Store : goal.returns-in-Store
returns-in-Store c = search (rules, by_store)

pub returns-in-Place : goal.returns-in-Place
returns-in-Place c = search (rules, by_place)

pub returns-in-Remove : goal.returns-in-Remove
returns-in-Remove c = search (rules, by_remove)

pub returns-in-Tally : goal.returns-in-Tally
returns-in-Tally c = search (rules, by_tally)
