use borrow.Author.Tests.{lt-leb, le-leb}
use Rattle.pieces.proofs.sequences.is_continued.Goals as goal

pub returns-then-b-lt192 : goal.returns-then-b-lt192
returns-then-b-lt192 c = rw (lt-leb 192 _ c.if-b-lt192.true)

pub returns : goal.returns
returns c = rw (le-leb 192 _ c.if-b-lt192.false, c.low5.ensures)
