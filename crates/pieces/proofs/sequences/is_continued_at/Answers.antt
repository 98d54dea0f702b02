-- `sequences::is_continued_at` meets its contract: past the end nothing continues. Assumes nothing.
use Rattle.tokens.proofs.Turns.{at_end_lem}
use mathlib.Core.Path.{sym}
use Rattle.pieces.proofs.sequences.is_continued_at.Goals as goal

pub returns-then-s-at : goal.returns-then-s-at
returns-then-s-at c =
    let a = c.args in sym (at_end_lem a.s.now a.at c.if-s-at.true)
