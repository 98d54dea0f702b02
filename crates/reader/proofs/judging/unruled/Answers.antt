-- `judging::unruled` meets its contract: the types in the definition's order. Assumes nothing.
use Rattle.std.specs.Prelude.{Err}
use mathlib.Core.Path.{ap, ◌∙◌}
use borrow.Author.Tests.{ne_eqb}
use native.Mathlib.Omega.{arith}
use Rattle.reader.proofs.judging.unruled.Goals as goal

pub returns-in-6 : goal.returns-in-6
returns-in-6 c = rw c.in-6.is

pub returns-in-7 : goal.returns-in-7
returns-in-7 c = ap Err c.met_at.ensures ∙ rw c.in-7.is

pub returns-in_default : goal.returns-in_default
returns-in_default c = ap Err c.met_at-in_default.ensures ∙ rw (ne_eqb c.args.k 6 (λ e. omega arith), ne_eqb c.args.k 7 (λ e. omega arith))
