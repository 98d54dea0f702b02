-- `spell` meets its contract. Assumes nothing.
use Rattle.effects.proofs.Working.{spell_as}
use Rattle.effects.proofs.spell.Goals as goal

pub returns : goal.returns
returns c = spell_as _ _ _ _ c.running-c.ensures.0 c.bytes_of-b.ensures c.spell.ensures
