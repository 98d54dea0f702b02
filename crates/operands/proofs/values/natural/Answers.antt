-- `operands::natural` meets its contract. Assumes nothing.
use borrow.Author.Rules.{rules}
use mathlib.Core.Path.{ap}
use lib.IntN.{ℤ}
use mir.Syntax.{w32}
use mir.Facts.{to_z_pos}
use Rattle.machine.specs.Operand.{natural}
use Rattle.operands.proofs.values.natural.Goals as goal

pub overflow_cast-result : goal.overflow_cast-result
unfolding natural
overflow_cast-result c = search rules

pub returns : goal.returns
unfolding natural
returns c = ap (λ (z : ℤ). record { num = z; den = 1 }) (to_z_pos w32 {n = c.args.n} c.requires)
