-- `arithmetic::product` meets its contract: two sizes of at most 2^31 have a product below 2^64. Assumes nothing.
use mathlib.Core.Path.{◌∙◌}
use Prim.Native.Nat.{◌^◌}
use native.Mathlib.Nat.{mul-le-mul}
use native.Mathlib.Omega.{arith}
use Rattle.numbers.specs.Arith.{product_of}
use Rattle.arithmetic.proofs.product.Goals as goal

pub numerator-requires : goal.numerator-requires
numerator-requires c = tt

pub numerator-requires-2 : goal.numerator-requires-2
numerator-requires-2 c = tt

pub times-requires : goal.times-requires
times-requires c = omega (arith, mul-le-mul {n₂ = 2 ^ 31} {m₂ = 2 ^ 31} c.numerator.ensures.1 c.numerator-2.ensures.1)

pub common_of-requires : goal.common_of-requires
common_of-requires c = tt

pub ratio_of-requires : goal.ratio_of-requires
ratio_of-requires c = tt

pub returns : goal.returns
unfolding product_of
returns c =
    c.ratio_of.ensures ∙ rw (c.times.ensures.0, c.numerator.ensures.0, c.numerator-2.ensures.0, c.common_of.ensures)
