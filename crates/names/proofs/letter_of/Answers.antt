-- `letter_of` meets its contract. Assumes nothing.
use Rattle.names.proofs.Letters.{no_data}
use native.Mathlib.Omega.{arith}
use Rattle.names.proofs.letter_of.Goals as goal

pub letter-requires : goal.letter-requires
letter-requires c = rw c.if-origin-eq0.true at c.requires

pub returns-then-origin-eq0 : goal.returns-then-origin-eq0
returns-then-origin-eq0 c = rw c.if-origin-eq0.true c.letter.ensures

pub letter-requires-then-origin-eq1 : goal.letter-requires-then-origin-eq1
letter-requires-then-origin-eq1 c = rw c.if-origin-eq1.true at c.requires

pub returns-then-origin-eq1 : goal.returns-then-origin-eq1
returns-then-origin-eq1 c = rw c.if-origin-eq1.true c.letter-then-origin-eq1.ensures

pub returns : goal.returns
returns c =
    let a = c.args in absurd (omega (arith, c.requires, no_data a.pre.now a.body.now a.origin c.if-origin-eq0.false c.if-origin-eq1.false a.start))
