-- `item_at` meets its contract. Assumes nothing.
use native.Mathlib.Omega.{arith}
use Rattle.items.proofs.Judging.{entry_cut, entry_there}
use Rattle.items.proofs.item_at.Goals as goal

pub returns-then-list-at-lt16 : goal.returns-then-list-at-lt16
returns-then-list-at-lt16 c =
    let a = c.args in entry_cut a.list.now a.text.now a.at (omega arith)

pub returns : goal.returns
returns c =
    let a = c.args in rw (entry_there a.list.now a.text.now a.at _ _ _ _ (omega arith) c.get_word.ensures c.get_word-2.ensures c.get_word-3.ensures c.get_word-4.ensures) c.item_of.ensures
