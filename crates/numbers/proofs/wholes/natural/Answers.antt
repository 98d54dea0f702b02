-- `numbers::wholes::natural` meets its contract: by the definition. Assumes nothing.
use mathlib.Core.Path.{refl}
use Rattle.numbers.specs.Whole.{signed}
use Rattle.numbers.proofs.wholes.natural.Goals as goal

pub returns : goal.returns
unfolding signed
returns c = (refl, refl)
