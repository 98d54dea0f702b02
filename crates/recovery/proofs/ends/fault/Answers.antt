-- `ends::fault` meets its contract. Assumes nothing.
use borrow.Author.Rules.{rules}
use Rattle.state.proofs.Ending.{fault_done}
use Rattle.recovery.proofs.ends.fault.Goals as goal

pub returns : goal.returns
returns c = search (rules, fault_done)
