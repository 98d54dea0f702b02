use Rattle.tokens.proofs.Signs.{mag_diff}
use mir.Facts.{to_z-of_z, to_z_pos}
use mir.Syntax.{w32}
use lib.Dec.{lit<}
use native.Mathlib.Omega.{arith}
use mathlib.Core.Path.{◌∙◌}
use Rattle.reader.proofs.reading.short_number.Goals as goal
use Rattle.reader.proofs.reading.short_number.Goals.{Start}

pub overflow_sub-result : goal.overflow_sub-result
overflow_sub-result c =
    rw (to_z_pos w32 {n = c.args.raw} (omega arith)) (record { sfits = mag_diff c.args.raw 4000 2147483648 (omega arith) (lit< tt) })

pub returns : goal.returns
returns c = to_z-of_z {w = w32} (overflow_sub-result (goal.at.returns c).Start) ∙ rw (to_z_pos w32 {n = c.args.raw} (omega arith))
