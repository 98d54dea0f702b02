-- `slots::clear` meets its contract. Assumes nothing.
use mathlib.Core.Path.{◌≡◌}
use lib.ListN.{length, take}
use lib.Seq.{length-take-le}
use Rattle.table.specs.Slots.{zeroed}
use Rattle.table.proofs.slots.clear.Goals as goal

pub returns : goal.returns
unfolding zeroed
returns c =
    let e : length (take c.args.n c.args.w.now) ≡ c.args.n = length-take-le c.args.n c.args.w.now c.requires in
    rw (c.fill.ensures.after (λ y h. h), e)
