-- `walks::page_row` meets its contract. Assumes nothing.
use Rattle.prints.proofs.Paging.{page_rowed}
use Rattle.prints.proofs.walks.page_row.Goals as goal

pub returns : goal.returns
returns c = page_rowed _ _ _ _ _ _ _ c.requires.0 c.page_of-q.ensures _ _ _ c.put_row.ensures
