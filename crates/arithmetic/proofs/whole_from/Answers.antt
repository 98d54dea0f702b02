-- `arithmetic::whole_from` meets its contract: by the test of the denominator. Assumes nothing.
use mathlib.Core.Path.{◌∙◌}
use borrow.Author.Tests.{eq-eqb, ne_eqb}
use Rattle.numbers.specs.Arith.{whole_from}
use Rattle.arithmetic.proofs.whole_from.Goals as goal

pub returns-then-a-eq0 : goal.returns-then-a-eq0
unfolding whole_from
returns-then-a-eq0 c = rw (eq-eqb c.args.a.den 0 c.if-a-eq0.true)

pub natural-requires : goal.natural-requires
natural-requires c = tt

pub ratio_of-requires : goal.ratio_of-requires
ratio_of-requires c = tt

pub returns : goal.returns
unfolding whole_from
returns c = rw (ne_eqb c.args.a.den 0 c.if-a-eq0.false) (c.ratio_of.ensures ∙ rw c.natural.ensures.0)
