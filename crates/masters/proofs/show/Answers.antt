-- `show` meets its contract. Assumes nothing.
use Rattle.masters.proofs.OneBody.{shows}
use Rattle.masters.proofs.show.Goals as goal

pub returns : goal.returns
returns c = shows _ _ _ _ _ _ (c.put_row.ensures c.args.w.now) c.put_sections.ensures
