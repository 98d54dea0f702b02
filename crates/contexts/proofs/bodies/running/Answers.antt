-- `bodies::running` meets its contract. Assumes nothing.
use Rattle.contexts.proofs.Entering.{running_at}
use Rattle.contexts.proofs.bodies.running.Goals as goal

pub returns : goal.returns
returns c = running_at c.args.w.now c.args.depth _ c.requires.0 c.get-c.ensures
