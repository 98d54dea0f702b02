-- `operands::cardinal` meets its contract. Assumes nothing.
use borrow.Author.Rules.{rules}
use mathlib.Core.Path.{sym, ap, ◌∙◌}
use Rattle.operands.proofs.Reading.{other_card}
use Rattle.machine.specs.Operand.{cardinal?}
use Rattle.operands.proofs.values.cardinal.Goals as goal

pub enum_known-v : goal.enum_known-v
unfolding cardinal?
enum_known-v c = search rules

pub cardinal_in-requires : goal.cardinal_in-requires
unfolding cardinal?
cardinal_in-requires c = search rules

pub returns-in-Number : goal.returns-in-Number
unfolding cardinal?
returns-in-Number c = (c.cardinal_in.ensures.0 ∙ ap cardinal? (sym c.in-Number.is), c.cardinal_in.ensures.1)

pub returns-in_default : goal.returns-in_default
unfolding cardinal?
returns-in_default c = (other_card c.args.v c.in_default.not-Number, tt)
