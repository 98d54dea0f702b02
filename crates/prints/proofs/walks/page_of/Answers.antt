use Rattle.prints.proofs.Paging.{ready_part, whole_part, page_of_parts}
use borrow.Author.Rules.{rules}
use Rattle.prints.proofs.walks.page_of.Goals as goal

pub page-requires : goal.page-requires
page-requires c =
    (ready_part _ _ _ _ _ _ c.requires.2 c.requires.0, search rules, c.requires.6, whole_part _ _ _ c.requires.2 c.requires.7, whole_part _ _ _ c.requires.4 c.requires.8)

pub returns : goal.returns
returns c = page_of_parts c.args.s.now _ _ _ _ _ _ _ _ _ c.requires.2 c.requires.4 c.page.ensures
