use native.Mathlib.Omega.{arith}
use borrow.Author.Tests.{eq-eqb, ne_eqb}
use Rattle.pieces.proofs.sequences.first_of.Goals as goal

pub returns-then-had-ne0 : goal.returns-then-had-ne0
returns-then-had-ne0 c = rw (ne_eqb c.args.had 0 c.if-had-ne0.true)

pub returns : goal.returns
returns c = rw (eq-eqb c.args.had 0 (omega arith))
