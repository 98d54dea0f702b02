-- `put_mark` meets its contract. Assumes nothing.
use Rattle.state.specs.Operations.{mark_put}
use Rattle.marks.proofs.put_mark.Goals as goal

pub returns : goal.returns
unfolding mark_put
returns c = cc
