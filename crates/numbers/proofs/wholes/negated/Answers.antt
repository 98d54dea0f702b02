-- `numbers::wholes::negated` meets its contract: the other sign. Assumes nothing.
use mathlib.Core.Path.{refl}
use Rattle.numbers.proofs.Signs.{signed_not}
use Rattle.numbers.proofs.wholes.negated.Goals as goal

pub returns : goal.returns
returns c = (signed_not c.args.a.below c.args.a.size, refl)
