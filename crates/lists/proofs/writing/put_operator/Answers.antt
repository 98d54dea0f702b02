-- `writing::put_operator` meets its contract: the short and the long form. Assumes nothing.
use Rattle.lists.proofs.OperatorBack.{operator_short, operator_long}
use Rattle.lists.proofs.writing.put_operator.Goals as goal

pub put_byte-requires : goal.put_byte-requires
put_byte-requires c = rw (operator_short c.args.n c.if-n-lt32.true) at c.requires.0

pub returns-then-n-lt32 : goal.returns-then-n-lt32
returns-then-n-lt32 c = rw (operator_short c.args.n c.if-n-lt32.true, ← c.short_first.ensures) c.put_byte.ensures

pub put_pair-requires : goal.put_pair-requires
put_pair-requires c = rw (operator_long c.args.n c.if-n-lt32.false) at c.requires.0

pub returns : goal.returns
returns c =
    rw (operator_long c.args.n c.if-n-lt32.false, ← c.long_first.ensures, ← c.low_byte.ensures) c.put_pair.ensures
