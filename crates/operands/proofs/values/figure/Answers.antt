-- `operands::figure` meets its contract. Assumes nothing.
use borrow.Author.Rules.{rules}
use mathlib.Core.Path.{sym, ap}
use Rattle.operands.proofs.Reading.{other_figure}
use Rattle.operands.specs.Operands.{figure_of}
use Rattle.operands.proofs.values.figure.Goals as goal

pub enum_known-v : goal.enum_known-v
unfolding figure_of
enum_known-v c = search rules

pub returns-in-Number : goal.returns-in-Number
unfolding figure_of
returns-in-Number c = ap figure_of (sym c.in-Number.is)

pub returns-in_default : goal.returns-in_default
unfolding figure_of
returns-in_default c = other_figure c.args.v c.in_default.not-Number
