-- `bodies::call` meets its contract. Assumes nothing.
use Rattle.contexts.proofs.Entering.{call_takes, call_on}
use Rattle.contexts.proofs.bodies.call.Goals as goal

pub enter_on-requires : goal.enter_on-requires
enter_on-requires c =
    (c.requires.0, call_takes 0 0 0 _ _ _ c.requires.0 c.requires.1 c.word.ensures c.last_word-word.ensures)

pub returns : goal.returns
returns c =
    call_on _ _ _ _ _ _ c.requires.0 c.requires.1 c.word.ensures c.last_word-word.ensures c.enter_on.ensures
