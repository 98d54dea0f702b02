-- `numbers::lowest::short_number` meets its contract: a size of at most 2^31 - 1 fits an i32 with either sign. Assumes nothing.
use native.Mathlib.Omega.{arith}
use mir.Facts.{to_z_pos}
use mir.Syntax.{w32}
use Rattle.numbers.specs.Whole.{signed}
use Rattle.numbers.proofs.Machine.{minus_fits, minus_back}
use Rattle.numbers.proofs.lowest.short_number.Goals as goal

pub overflow_cast-result : goal.overflow_cast-result
overflow_cast-result c = omega arith

pub overflow_sub-result : goal.overflow_sub-result
overflow_sub-result c = minus_fits c.args.size (omega arith)

pub overflow_cast-result-else-below : goal.overflow_cast-result-else-below
overflow_cast-result-else-below c = omega arith

pub returns-then-below : goal.returns-then-below
returns-then-below c = rw c.if-below.true (minus_back c.args.size (omega arith))

pub returns-else-below : goal.returns-else-below
unfolding signed
returns-else-below c = rw c.if-below.false (to_z_pos w32 {n = c.args.size} (omega arith))
