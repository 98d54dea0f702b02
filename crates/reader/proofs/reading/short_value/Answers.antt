-- `reading::short_value` meets its contract. Assumes nothing.
use Rattle.numbers.specs.declared.Number.{Number}
use lib.IntN.{ℤ}
use mir.Facts.{to_z-of_z}
use mir.Syntax.{w32}
use mathlib.Core.Path.{ap, ◌∙◌}
use Rattle.reader.proofs.reading.short_value.Goals as goal

abbrev whole : ℤ → Number
whole z = record { num = z; den = 1 }

pub returns : goal.returns
returns c =
    ap whole (to_z-of_z {w = w32} (record { sfits = c.short_number-num.type_inv }) ∙ c.short_number-num.ensures)
