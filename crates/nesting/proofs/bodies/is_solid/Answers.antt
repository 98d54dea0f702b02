-- `bodies::is_solid` meets its contract. Assumes nothing.
use Rattle.nesting.proofs.BodyTurns.{end_solid, byte_solid}
use Rattle.nesting.proofs.bodies.is_solid.Goals as goal

pub returns-then-s-at : goal.returns-then-s-at
returns-then-s-at c = λ _. end_solid _ _ c.if-s-at.true

pub returns : goal.returns
returns c = λ e. byte_solid _ _ _ c.low5.ensures e
