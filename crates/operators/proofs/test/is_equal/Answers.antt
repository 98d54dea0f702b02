-- `test::is_equal` meets its contract. Assumes nothing.
use mathlib.Core.Path.{sym, ap, ◌∙◌}
use Rattle.machine.specs.Ops.Test.{is_equal}
use Rattle.operators.proofs.test.is_equal.Goals as goal

pub returns-in-Less : goal.returns-in-Less
unfolding is_equal
returns-in-Less c = ap is_equal (sym c.in-Less.is) ∙ ap is_equal c.compare.ensures

pub returns-in-Equal : goal.returns-in-Equal
unfolding is_equal
returns-in-Equal c = ap is_equal (sym c.in-Equal.is) ∙ ap is_equal c.compare.ensures

pub returns-in-Greater : goal.returns-in-Greater
unfolding is_equal
returns-in-Greater c = ap is_equal (sym c.in-Greater.is) ∙ ap is_equal c.compare.ensures
