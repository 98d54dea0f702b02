-- `writing::cap` meets its contract. Assumes nothing.
use Rattle.std.proofs.Common.{arith, le-leb}
use borrow.Author.Tests.{lt-leb}
use Rattle.lists.specs.Inner.{capped}
use Rattle.lists.proofs.writing.cap.Goals as goal

pub returns-then-n-le16777216 : goal.returns-then-n-le16777216
unfolding capped
returns-then-n-le16777216 c = (rw (le-leb _ _ c.if-n-le16777216.true), omega arith)

pub returns-else-n-le16777216 : goal.returns-else-n-le16777216
unfolding capped
returns-else-n-le16777216 c = (rw (lt-leb _ _ c.if-n-le16777216.false), omega arith)
