use Rattle.prints.proofs.Paging.{whole_part, preamble_of_part}
use borrow.Author.Rules.{rules}
use Rattle.prints.proofs.walks.preamble_of.Goals as goal

pub preamble-requires : goal.preamble-requires
preamble-requires c = (c.requires.0, search rules, search rules, c.requires.4, whole_part _ _ _ c.requires.2 c.requires.5)

pub returns : goal.returns
returns c = preamble_of_part _ _ _ _ _ _ c.requires.2 c.preamble.ensures
