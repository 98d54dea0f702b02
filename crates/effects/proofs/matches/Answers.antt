-- `matches` meets its contract. Assumes nothing.
use Rattle.effects.proofs.Acting.{matched, bit_is}
use Rattle.effects.proofs.matches.Goals as goal

pub returns : goal.returns
returns c =
    matched _ _ _ _ _ _ _ _ c.place_of-x.ensures c.place_of-y.ensures c.same_text-same.ensures (bit_is _ c.from.ensures c.natural-bit.ensures) c.push_number.ensures
