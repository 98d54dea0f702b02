-- `pz_reprint` tells what `reprint` answers. Assumes nothing.
use Rattle.host.proofs.Telling.{reprint_told}
use borrow.Author.Rules.{rules}
use Rattle.host.proofs.pz_reprint.Goals as goal

pub returns : goal.returns
returns c = search (rules, reprint_told)
