-- `bodies::enter_on` meets its contract. Assumes nothing.
use Rattle.contexts.proofs.Entering.{enter_full, enter_made}
use mathlib.Core.Path.{refl}
use Rattle.contexts.proofs.bodies.enter_on.Goals as goal

pub returns-then-d-ge12 : goal.returns-then-d-ge12
returns-then-d-ge12 c = enter_full _ _ _ _ c.requires.0 c.if-d-ge12.true refl

pub returns : goal.returns
returns c = enter_made _ _ _ _ c.requires.0 c.requires.1 c.if-d-ge12.false _ c.word.ensures c.put.ensures refl
