use mathlib.Core.Bool.{and-true}
use Rattle.tokens.proofs.Rules.{every_anything}
use mathlib.Core.Path.{sym}
use Rattle.pieces.proofs.sequences.good_more.Goals as goal

pub returns-in-Anything : goal.returns-in-Anything
returns-in-Anything c = rw (c.in-Anything.is, every_anything) (sym (and-true _))

pub returns-then-good : goal.returns-then-good
returns-then-good c = rw (c.if-good.true, c.all_obey.ensures)
