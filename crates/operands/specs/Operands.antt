-- The answers of the functions that read an operand, as `machine` has them. Assumes nothing.
use Rattle.std.specs.Prelude.{ℕ, ◌≤◌, Option, Some, None}
use Rattle.numbers.specs.declared.Number as num
use Rattle.machine.specs.declared.Value.{Value}
use Rattle.machine.specs.declared.Value.TheVariants.{Number, Identifier, Vector, Operator}
use Rattle.machine.specs.Limits.{most_cardinal}

-- a Cardinal is small
abbrev pub Within : Option ℕ → Type 0
Within None = Unit
Within (Some n) = n ≤ most_cardinal

unfoldable pub figure_of : Value → Option num.Number
figure_of (Number a) = Some a
figure_of (Identifier origin start len) = None
figure_of (Vector first lower count) = None
figure_of (Operator origin start len first) = None
