-- `writing::put_number` meets its contract. Assumes nothing.
use Rattle.lists.proofs.Sizes.{one_is, other_is}
use Rattle.lists.proofs.writing.put_number.Goals as goal

pub put_whole-requires : goal.put_whole-requires
put_whole-requires c = rw (one_is c.args.num c.args.den c.if-den-eq1.true) at c.requires

pub returns-then-den-eq1 : goal.returns-then-den-eq1
returns-then-den-eq1 c = rw (one_is c.args.num c.args.den c.if-den-eq1.true) c.put_whole.ensures

pub put_rational-requires : goal.put_rational-requires
put_rational-requires c = rw (other_is c.args.num c.args.den c.if-den-eq1.false) at c.requires

pub returns : goal.returns
returns c = rw (other_is c.args.num c.args.den c.if-den-eq1.false) c.put_rational.ensures
