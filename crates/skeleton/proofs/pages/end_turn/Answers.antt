-- `pages::end_turn` meets its contract. Assumes nothing.
use borrow.Author.Tests.{eq-eqb, ne_eqb}
use Rattle.skeleton.specs.Turns.{end_turn}
use Rattle.skeleton.proofs.pages.end_turn.Goals as goal

pub returns-then-next-s : goal.returns-then-next-s
unfolding end_turn
returns-then-next-s c = rw (eq-eqb _ _ c.if-next-s.true)

pub returns : goal.returns
unfolding end_turn
returns c = rw (ne_eqb _ _ c.if-next-s.false, c.met_at.ensures)
