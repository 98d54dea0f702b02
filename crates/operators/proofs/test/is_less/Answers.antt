-- `test::is_less` meets its contract. Assumes nothing.
use mathlib.Core.Path.{sym, ap, ◌∙◌}
use Rattle.machine.specs.Ops.Test.{is_less}
use Rattle.operators.proofs.test.is_less.Goals as goal

pub returns-in-Less : goal.returns-in-Less
unfolding is_less
returns-in-Less c = ap is_less (sym c.in-Less.is) ∙ ap is_less c.compare.ensures

pub returns-in-Equal : goal.returns-in-Equal
unfolding is_less
returns-in-Equal c = ap is_less (sym c.in-Equal.is) ∙ ap is_less c.compare.ensures

pub returns-in-Greater : goal.returns-in-Greater
unfolding is_less
returns-in-Greater c = ap is_less (sym c.in-Greater.is) ∙ ap is_less c.compare.ensures
