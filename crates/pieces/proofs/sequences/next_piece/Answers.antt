-- `sequences::next_piece` meets its contract: it looks at the first byte. Assumes nothing.
use Rattle.pieces.proofs.sequences.next_piece.Goals as goal

pub returns-then-is_continued : goal.returns-then-is_continued
returns-then-is_continued c = rw (← c.is_continued.ensures, c.if-is_continued.true) c.piece_at.ensures

pub returns : goal.returns
returns c = rw (← c.is_continued.ensures, c.if-is_continued.false)
