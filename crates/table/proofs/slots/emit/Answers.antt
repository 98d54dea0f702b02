-- `slots::emit` meets its contract. Assumes nothing.
use Rattle.table.proofs.SlotLists.{emitted}
use Rattle.table.proofs.slots.emit.Goals as goal

pub returns : goal.returns
returns c =
    emitted _ _ _ _ _ _ c.args.p c.args.v c.put_word.ensures c.put_word-2.ensures c.put_word-3.ensures c.put_word-4.ensures c.put_word-5.ensures
