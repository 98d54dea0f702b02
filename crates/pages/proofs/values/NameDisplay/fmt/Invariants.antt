use Rattle.std.proofs.Common.{length, ◌-◌}
use Rattle.pages.proofs.values.NameDisplay.fmt.Given as goal

abbrev pub decreases-loop-at : goal.decreases-loop-at
decreases-loop-at g l = length l.self.body.now - l.at
