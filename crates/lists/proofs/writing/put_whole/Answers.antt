-- `writing::put_whole` meets its contract. Assumes nothing.
use Rattle.lists.proofs.Sizes.{short_yes, short_no}
use Rattle.lists.proofs.writing.put_whole.Goals as goal

pub put_pair-requires : goal.put_pair-requires
put_pair-requires c = rw (short_yes c.args.a _ c.ranges.a.fits c.raised_of-v.ensures c.if-v-lt32768.true) at c.requires

pub returns-then-v-lt32768 : goal.returns-then-v-lt32768
returns-then-v-lt32768 c =
    rw (short_yes c.args.a _ c.ranges.a.fits c.raised_of-v.ensures c.if-v-lt32768.true) c.put_pair.ensures

pub put_integer-requires : goal.put_integer-requires
put_integer-requires c = rw (short_no c.args.a _ c.ranges.a.fits c.raised_of-v.ensures c.if-v-lt32768.false) at c.requires

pub returns : goal.returns
returns c =
    rw (short_no c.args.a _ c.ranges.a.fits c.raised_of-v.ensures c.if-v-lt32768.false) c.put_integer.ensures
