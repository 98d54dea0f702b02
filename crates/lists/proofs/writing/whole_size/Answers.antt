-- `writing::whole_size` meets its contract. Assumes nothing.
use Rattle.std.proofs.Common.{length, sym, ap, arith}
use Rattle.lists.proofs.Sizes.{short_yes, short_no, integer_length}
use Rattle.lists.proofs.writing.whole_size.Goals as goal

pub returns-then-raised_of-lt32768 : goal.returns-then-raised_of-lt32768
returns-then-raised_of-lt32768 c =
    (sym (ap length (short_yes c.args.a _ c.ranges.a.fits c.raised_of.ensures c.if-raised_of-lt32768.true)), omega arith)

pub returns : goal.returns
returns c =
    (rw (short_no c.args.a _ c.ranges.a.fits c.raised_of.ensures c.if-raised_of-lt32768.false) (integer_length c.args.a _ c.ranges.a.fits c.bytes_for_word.ensures), omega (arith, c.bytes_for_word.ensures.1))
