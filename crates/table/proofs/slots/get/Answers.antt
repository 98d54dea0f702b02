-- `slots::get` meets its contract. Assumes nothing.
use mathlib.Core.Path.{◌∙◌}
use Rattle.table.proofs.SlotLists.{get_slot}
use native.Mathlib.Omega.{arith}
use Rattle.table.proofs.slots.get.Goals as goal

pub returns : goal.returns
returns c =
    (rw (c.get_word-5.ensures, c.get_word-4.ensures, c.get_word-3.ensures, c.get_word-2.ensures, c.get_word.ensures)) ∙ get_slot c.args.w.now c.args.k (omega arith)
