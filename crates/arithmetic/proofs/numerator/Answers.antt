-- `arithmetic::numerator` meets its contract: an i32 is at most 2^31 in size. Assumes nothing.
use mathlib.Core.Path.{ap, ◌∙◌}
use native.Mathlib.Omega.{arith}
use lib.Signed.{nat_abs-le}
use lib.IntN.{nat_abs}
use Rattle.numbers.proofs.Machine.{wide_fits, wide_is}
use Rattle.arithmetic.proofs.numerator.Goals as goal

pub overflow_cast-a : goal.overflow_cast-a
overflow_cast-a c = wide_fits c.args.a.num c.struct_told-1.given.0.1

pub of_signed-requires : goal.of_signed-requires
of_signed-requires c = tt

pub returns : goal.returns
returns c =
    let z = c.args.a.num in let h = c.struct_told-1.given.0.1 in let e = c.of_signed.ensures.1 ∙ ap nat_abs (wide_is z h) in (c.of_signed.ensures.0 ∙ wide_is z h, omega (arith, e, nat_abs-le z h), e)
