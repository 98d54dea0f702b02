use borrow.Author.Tests.{le-ltb, lt-ltb}
use Rattle.pieces.proofs.sequences.length_bytes.Goals as goal

pub returns-then-b-lt224 : goal.returns-then-b-lt224
returns-then-b-lt224 c = rw (lt-ltb _ 224 c.if-b-lt224.true)

pub returns-else-b-lt224 : goal.returns-else-b-lt224
returns-else-b-lt224 c = rw (le-ltb _ 224 c.if-b-lt224.false)
