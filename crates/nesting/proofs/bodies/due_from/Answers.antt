-- `bodies::due_from` meets its contract: comments, then the operator. Assumes nothing.
use mathlib.Core.Path.{sym}
use Rattle.nesting.proofs.BodyTurns.{due_there}
use Rattle.nesting.proofs.bodies.due_from.Goals as goal

pub returns : goal.returns
returns c = sym (due_there _ _ _ _ _ c.past_comments.ensures c.due_here.ensures)
