-- `pz_run` tells what `run` answers. Assumes nothing.
use Rattle.host.proofs.Telling.{run_told}
use borrow.Author.Rules.{rules}
use Rattle.host.proofs.pz_run.Goals as goal

pub returns : goal.returns
returns c = search (rules, run_told)
