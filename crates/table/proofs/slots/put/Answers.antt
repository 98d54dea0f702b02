-- `slots::put` meets its contract. Assumes nothing.
use mathlib.Core.Path.{ap, ◌∙◌}
use Rattle.table.proofs.SlotLists.{put_slot}
use Rattle.table.specs.Slots.{slots}
use native.Mathlib.Omega.{arith}
use Rattle.table.proofs.slots.put.Goals as goal

pub returns : goal.returns
returns c =
    ap slots c.emit.ensures ∙ put_slot c.args.w.now c.args.k c.args.v (record { kind = omega arith; a = omega arith; b = omega arith; c = omega arith; d = omega arith }) (omega arith)
