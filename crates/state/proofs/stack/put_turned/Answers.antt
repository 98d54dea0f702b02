-- `stack::put_turned` meets its contract. Assumes nothing.
use Rattle.state.proofs.stack.put_turned.Goals as goal

pub returns : goal.returns
returns c = cc
