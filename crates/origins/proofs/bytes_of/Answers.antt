-- `bytes_of` meets its contract. Assumes nothing.
use Rattle.origins.proofs.ByOrigin.{nothing_there}
use Rattle.origins.proofs.bytes_of.Goals as goal

pub returns : goal.returns
returns c = nothing_there _ _ _ c.if-origin-eq0.false c.if-origin-eq1.false
