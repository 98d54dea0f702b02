-- `arithmetic::common_of` meets its contract: two sizes below 2^32 have a product below 2^64. Assumes nothing.
use mathlib.Core.Path.{◌∙◌}
use native.Mathlib.Nat.{mul-le-mul}
use native.Mathlib.Omega.{arith}
use Rattle.arithmetic.proofs.common_of.Goals as goal

pub denominator-requires : goal.denominator-requires
denominator-requires c = tt

pub denominator-requires-2 : goal.denominator-requires-2
denominator-requires-2 c = tt

pub times-requires : goal.times-requires
times-requires c =
    omega (arith, mul-le-mul {n₁ = c.denominator.result.size} {m₁ = c.denominator-2.result.size} {n₂ = 4294967295} {m₂ = 4294967295} (omega arith) (omega arith))

pub returns : goal.returns
returns c = c.times.ensures.0 ∙ rw (c.denominator-2.ensures.0, c.denominator.ensures.0)
