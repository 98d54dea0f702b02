-- `writing::number_size` meets its contract. Assumes nothing.
use Rattle.std.proofs.Common.{length, sym, ap, ◌∙◌, arith}
use Rattle.lists.proofs.Sizes.{one_is, rational_length}
use Rattle.lists.proofs.writing.number_size.Goals as goal

pub returns-then-den-eq1 : goal.returns-then-den-eq1
returns-then-den-eq1 c =
    let a = c.args in (c.whole_size.ensures.0 ∙ sym (ap length (one_is a.num a.den c.if-den-eq1.true)), c.whole_size.ensures.1)

pub returns : goal.returns
returns c =
    (rational_length c.args.num c.args.den _ c.ranges.num.fits c.if-den-eq1.false c.half_of-k.ensures, omega (arith, c.half_of-k.ensures.1))
