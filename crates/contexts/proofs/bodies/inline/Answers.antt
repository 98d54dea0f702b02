-- `bodies::inline` meets its contract. Assumes nothing.
use Rattle.contexts.proofs.Entering.{inline_takes, inline_on}
use Rattle.contexts.proofs.bodies.inline.Goals as goal

pub enter_on-requires : goal.enter_on-requires
enter_on-requires c = (c.requires, inline_takes 0 0 _ _ _ c.requires c.get-c.ensures c.last_word.ensures)

pub returns : goal.returns
returns c = inline_on _ _ _ _ _ c.requires c.get-c.ensures c.last_word.ensures c.enter_on.ensures
