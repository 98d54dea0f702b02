-- `numbers::wholes::of_signed` meets its contract: below zero by -(n + 1), which fits where -n may not. Assumes nothing.
use mathlib.Core.Path.{sym, ap, ◌∙◌}
use native.Mathlib.Omega.{arith}
use lib.Signed.{nat_abs-le}
use lib.IntN.{ℤ, pos, nat_abs}
use mir.Facts.{to_z-of_z}
use Rattle.numbers.specs.Whole.{signed}
use Rattle.numbers.proofs.Machine.{up_fits, turned_fits, turned_back, below_signed, below_size, not_below}
use Rattle.numbers.proofs.wholes.of_signed.Goals as goal

pub overflow_add-result : goal.overflow_add-result
overflow_add-result c = up_fits _ c.ranges.n c.if-n-lt0.true

pub overflow_sub-result : goal.overflow_sub-result
overflow_sub-result c = turned_fits _ c.ranges.n c.if-n-lt0.true

pub overflow_cast-result : goal.overflow_cast-result
overflow_cast-result c =
    rw (turned_back _ c.ranges.n c.if-n-lt0.true) (tt, record { fits = omega (arith, c.ranges.n.sfits) })

pub overflow_add-result-then-n-lt0 : goal.overflow_add-result-then-n-lt0
overflow_add-result-then-n-lt0 c = rw (turned_back _ c.ranges.n c.if-n-lt0.true) (record { fits = omega (arith, c.ranges.n.sfits) })

pub overflow_cast-result-else-n-lt0 : goal.overflow_cast-result-else-n-lt0
overflow_cast-result-else-n-lt0 c =
    let e = not_below c.args.n (rw (to_z-of_z c.ranges.n) at c.if-n-lt0.false) in rw (to_z-of_z c.ranges.n, e) (tt, record { fits = omega (arith, nat_abs-le c.args.n c.ranges.n.sfits) })

pub returns-then-n-lt0 : goal.returns-then-n-lt0
returns-then-n-lt0 c =
    rw (turned_back _ c.ranges.n c.if-n-lt0.true) (below_signed _ c.ranges.n c.if-n-lt0.true, below_size _ c.ranges.n c.if-n-lt0.true)

pub returns-else-n-lt0 : goal.returns-else-n-lt0
unfolding signed
returns-else-n-lt0 c =
    let e = not_below c.args.n (rw (to_z-of_z c.ranges.n) at c.if-n-lt0.false) in (ap (λ (z : ℤ). pos (nat_abs z)) (to_z-of_z c.ranges.n) ∙ sym e, ap nat_abs (to_z-of_z c.ranges.n))
