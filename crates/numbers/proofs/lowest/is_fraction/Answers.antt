-- `numbers::lowest::is_fraction` meets its contract: test by test. Assumes nothing.
use native.Mathlib.Omega.{arith}
use borrow.Author.Tests.{le-leb, lt-leb}
use Rattle.numbers.specs.Fraction.{most, is_fraction}
use Rattle.numbers.proofs.lowest.is_fraction.Goals as goal

pub returns-then-size-gt-MOST : goal.returns-then-size-gt-MOST
unfolding is_fraction
returns-then-size-gt-MOST c = rw (lt-leb c.args.size most (omega arith))

pub returns-then-den-lt1 : goal.returns-then-den-lt1
unfolding is_fraction
returns-then-den-lt1 c = rw (le-leb c.args.size most (omega arith), lt-leb 1 c.args.den (omega arith))

pub returns-then-den-gt-MOST : goal.returns-then-den-gt-MOST
unfolding is_fraction
returns-then-den-gt-MOST c =
    rw (le-leb c.args.size most (omega arith), le-leb 1 c.args.den (omega arith), lt-leb c.args.den most (omega arith))

pub gcd-requires : goal.gcd-requires
gcd-requires c = tt

pub returns : goal.returns
unfolding is_fraction
returns c =
    rw (c.gcd.ensures, le-leb c.args.size most (omega arith), le-leb 1 c.args.den (omega arith), le-leb c.args.den most (omega arith))
