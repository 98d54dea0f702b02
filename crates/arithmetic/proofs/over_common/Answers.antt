-- `arithmetic::over_common` meets its contract: at most 2^31 times less than 2^32 is below 2^63. Assumes nothing.
use mathlib.Core.Path.{◌≡◌, sym, ap, ◌∙◌}
use native.Mathlib.Omega.{arith}
use lib.IntN.{nat_abs}
use Rattle.numbers.specs.Arith.{over}
use Rattle.arithmetic.proofs.Operations.{over_lt}
use Rattle.numbers.proofs.Signs.{abs_signed}
use Rattle.arithmetic.proofs.over_common.Goals as goal

pub numerator-requires : goal.numerator-requires
numerator-requires c = tt

pub denominator-requires : goal.denominator-requires
denominator-requires c = tt

pub times-requires : goal.times-requires
times-requires c = omega (arith, over_lt _ _ c.numerator.ensures.1 c.denominator.ensures.2)

pub returns : goal.returns
returns c =
    let e : _ ≡ over c.args.a c.args.b = c.times.ensures.0 ∙ rw (c.denominator.ensures.0, c.numerator.ensures.0) in (e, sym (abs_signed _ _) ∙ ap nat_abs e, omega (arith, c.times.ensures.1, over_lt _ _ c.numerator.ensures.1 c.denominator.ensures.2))
