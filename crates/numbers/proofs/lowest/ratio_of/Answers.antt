-- `numbers::lowest::ratio_of` meets its contract: a divisor of a number above 0 is above 0, over 1 nothing is to be reduced, and the quotient
-- goes by signs and sizes. Assumes nothing.
use mathlib.Core.Path.{◌∙◌}
use native.Mathlib.Omega.{arith}
use Rattle.numbers.proofs.Divisor.{gcd_pos}
use Rattle.numbers.proofs.Limits.{ratio_by_zero, ratio_signed, ratio_whole}
use Rattle.numbers.proofs.lowest.ratio_of.Goals as goal

pub returns-then-d-eq0 : goal.returns-then-d-eq0
returns-then-d-eq0 c =
    let a = c.args in ratio_by_zero a.n.below a.d.below a.n.size a.d.size c.if-d-eq0.true

pub unlike-requires : goal.unlike-requires
unlike-requires c = tt

pub inside_limits-requires : goal.inside_limits-requires
inside_limits-requires c = tt

pub returns-then-d-eq1 : goal.returns-then-d-eq1
returns-then-d-eq1 c =
    let a = c.args in c.inside_limits.ensures ∙ rw c.unlike.ensures (ratio_whole a.n.below a.d.below a.n.size a.d.size c.if-d-eq1.true)

pub gcd-g-requires : goal.gcd-g-requires
gcd-g-requires c = tt

pub unlike-requires-2 : goal.unlike-requires-2
unlike-requires-2 c = tt

pub nonzero_div-n : goal.nonzero_div-n
nonzero_div-n c = rw c.gcd-g.ensures (gcd_pos _ _ (omega arith))

pub nonzero_div-d : goal.nonzero_div-d
nonzero_div-d c = rw c.gcd-g.ensures (gcd_pos _ _ (omega arith))

pub inside_limits-requires-2 : goal.inside_limits-requires-2
inside_limits-requires-2 c = tt

pub returns : goal.returns
returns c =
    let a = c.args in c.inside_limits-2.ensures ∙ rw (c.unlike-2.ensures, c.gcd-g.ensures) (ratio_signed a.n.below a.d.below a.n.size a.d.size (omega arith))
