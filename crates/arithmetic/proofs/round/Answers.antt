-- `arithmetic::round` meets its contract: twice at most 2^31, and a denominator, fit a u64. Assumes nothing.
use mathlib.Core.Path.{◌∙◌}
use native.Mathlib.Omega.{arith}
use Rattle.numbers.specs.Whole.{floor_quotient, signed_by}
use Rattle.numbers.specs.Arith.{round_of}
use Rattle.arithmetic.proofs.round.Goals as goal

pub numerator-requires : goal.numerator-requires
numerator-requires c = tt

pub natural-requires : goal.natural-requires
natural-requires c = tt

pub times-twice-requires : goal.times-twice-requires
times-twice-requires c = rw c.natural.ensures.1 (omega (arith, c.numerator.ensures.1))

pub denominator-requires : goal.denominator-requires
denominator-requires c = tt

pub plus-sum-requires : goal.plus-sum-requires
plus-sum-requires c = rw (c.times-twice.ensures.1, c.natural.ensures.1) (omega (arith, c.numerator.ensures.1))

pub overflow_cast-a : goal.overflow_cast-a
overflow_cast-a c = omega arith

pub overflow_mul-a : goal.overflow_mul-a
overflow_mul-a c = omega arith

pub rounded_down-requires : goal.rounded_down-requires
rounded_down-requires c = tt

pub whole_from-requires : goal.whole_from-requires
whole_from-requires c = tt

pub returns : goal.returns
unfolding round_of floor_quotient signed_by
returns c =
    c.whole_from.ensures ∙ rw (c.rounded_down.ensures, c.plus-sum.ensures, c.times-twice.ensures.0, c.numerator.ensures.0, c.natural.ensures.0, c.denominator.ensures.0)
