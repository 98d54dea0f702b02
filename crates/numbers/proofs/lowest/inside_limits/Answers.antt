-- `numbers::lowest::inside_limits` meets its contract: test by test. Assumes nothing.
use Rattle.std.specs.Prelude.{Ok}
use mathlib.Core.Path.{ap, ◌∙◌}
use native.Mathlib.Omega.{arith}
use mir.Facts.{to_z-of_z}
use mir.Syntax.{w32}
use Rattle.numbers.proofs.Limits.{size_over, den_over, inside}
use Rattle.numbers.proofs.lowest.inside_limits.Goals as goal

pub returns-then-size-gt-MOST : goal.returns-then-size-gt-MOST
returns-then-size-gt-MOST c =
    let a = c.args in size_over a.below a.size a.den (omega arith)

pub returns-then-den-gt-MOST : goal.returns-then-den-gt-MOST
returns-then-den-gt-MOST c =
    let a = c.args in den_over a.below a.size a.den (omega arith)

pub short_number-requires : goal.short_number-requires
short_number-requires c = omega arith

pub overflow_cast-result : goal.overflow_cast-result
overflow_cast-result c = omega arith

pub returns : goal.returns
returns c =
    let a = c.args in ap (λ z. Ok (record { num = z; den = a.den })) (to_z-of_z {w = w32} (record { sfits = c.short_number.type_inv }) ∙ c.short_number.ensures) ∙ inside a.below a.size a.den (omega arith) (omega arith)
