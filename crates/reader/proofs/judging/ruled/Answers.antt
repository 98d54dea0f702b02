use Rattle.std.specs.Prelude.{Err}
use Rattle.tokens.proofs.Sizes.{ruled_is, ruled_not}
use mathlib.Core.Path.{refl, ap}
use Rattle.reader.proofs.judging.ruled.Goals as goal

pub returns-then-good : goal.returns-then-good
returns-then-good c = ruled_is _ _ _ _ c.if-good.true refl

pub returns : goal.returns
returns c = ruled_not _ _ _ _ c.if-good.false (ap Err c.met_at.ensures)
