-- `bodies::past_comments` meets its contract. Assumes nothing.
use Rattle.nesting.proofs.BodyTurns.{stands_at}
use Rattle.nesting.proofs.bodies.past_comments.Goals as goal

pub returns-then-is_solid : goal.returns-then-is_solid
returns-then-is_solid c = stands_at _ _ (c.is_solid.ensures c.if-is_solid.true)
