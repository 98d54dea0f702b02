-- `place_of` meets its contract. Assumes nothing.
use mathlib.Core.Path.{refl}
use Rattle.effects.proofs.Acting.{name_place, no_place}
use Rattle.effects.proofs.place_of.Goals as goal

pub returns-in-Identifier : goal.returns-in-Identifier
returns-in-Identifier c = name_place _ _ _ _ c.in-Identifier.is

pub returns-in_default : goal.returns-in_default
returns-in_default c = no_place c.args.v _ c.in_default.not-Identifier refl
