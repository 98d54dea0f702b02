-- `wipe` meets its contract. Assumes nothing.
use mathlib.Core.Path.{◌∙◌}
use Rattle.masters.proofs.EveryBody.{clear_all}
use Rattle.masters.proofs.wipe.Goals as goal

pub returns : goal.returns
returns c = c.clear.ensures ∙ clear_all c.args.w.now c.requires
