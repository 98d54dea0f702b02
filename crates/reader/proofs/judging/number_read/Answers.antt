-- `judging::number_read` meets its contract. Assumes nothing.
use mathlib.Core.Path.{ap, ◌∙◌}
use Rattle.std.specs.Prelude.{Err}
use Rattle.tokens.specs.Token.{number_read}
use Rattle.reader.proofs.judging.number_read.Goals as goal

pub returns-in-Ok : goal.returns-in-Ok
unfolding number_read
returns-in-Ok c = rw c.in-Ok.is

pub returns-in-Err : goal.returns-in-Err
unfolding number_read
returns-in-Err c = ap Err c.met_at.ensures ∙ rw c.in-Err.is
