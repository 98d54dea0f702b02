-- `writing::bytes_for` meets its contract. Assumes nothing.
use Rattle.std.proofs.Common.{sym, arith}
use Rattle.lists.proofs.Sizes.{bytes_1, bytes_2, bytes_3, bytes_4}
use Rattle.lists.proofs.writing.bytes_for.Goals as goal

pub returns-then-m-lt128 : goal.returns-then-m-lt128
returns-then-m-lt128 c = (sym (bytes_1 _ c.if-m-lt128.true), omega arith)

pub returns-then-m-lt32768 : goal.returns-then-m-lt32768
returns-then-m-lt32768 c = (sym (bytes_2 _ c.if-m-lt128.false c.if-m-lt32768.true), omega arith)

pub returns-then-m-lt8388608 : goal.returns-then-m-lt8388608
returns-then-m-lt8388608 c = (sym (bytes_3 _ c.if-m-lt128.false c.if-m-lt32768.false c.if-m-lt8388608.true), omega arith)

pub returns-else-m-lt8388608 : goal.returns-else-m-lt8388608
returns-else-m-lt8388608 c = (sym (bytes_4 _ c.if-m-lt128.false c.if-m-lt32768.false c.if-m-lt8388608.false), omega arith)
