-- `numbers::wholes::whole_above` meets its contract: 0, or 1 more than the whole part of (n - 1) / d. Assumes nothing.
use Prim.Native.Nat.{◌-◌}
use native.Mathlib.Nat.{div-le_self}
use native.Mathlib.Omega.{arith}
use Rattle.numbers.proofs.Rounding.{above_zero, above_next}
use Rattle.numbers.proofs.wholes.whole_above.Goals as goal

pub overflow_sub-n : goal.overflow_sub-n
overflow_sub-n c = omega arith

pub whole_part-requires : goal.whole_part-requires
whole_part-requires c = tt

pub overflow_add-result : goal.overflow_add-result
overflow_add-result c =
    let a = c.args in record { fits = omega (arith, c.whole_part.ensures, div-le_self (a.n - 1) a.d, c.ranges.n.fits) }

pub returns-then-n-eq0 : goal.returns-then-n-eq0
returns-then-n-eq0 c = above_zero c.args.n c.args.d c.if-n-eq0.true

pub returns-else-n-eq0 : goal.returns-else-n-eq0
returns-else-n-eq0 c =
    let a = c.args in above_next a.n a.d c.whole_part.result (omega arith) c.whole_part.ensures
