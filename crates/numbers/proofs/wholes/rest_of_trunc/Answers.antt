-- `numbers::wholes::rest_of_trunc` meets its contract: nothing to divide by, or the remainder of the sizes. Assumes nothing.
use native.Mathlib.Omega.{arith}
use Rattle.numbers.proofs.Rounding.{trunc_rest, zero_rest}
use Rattle.numbers.proofs.wholes.rest_of_trunc.Goals as goal

pub returns-then-y-eq0 : goal.returns-then-y-eq0
returns-then-y-eq0 c =
    let a = c.args in zero_rest a.x.below a.y.below a.x.size a.y.size _ c.if-y-eq0.true

pub nonzero_rem-result : goal.nonzero_rem-result
nonzero_rem-result c = omega arith

pub returns : goal.returns
returns c =
    let a = c.args in trunc_rest a.x.below a.y.below a.x.size a.y.size (omega arith)
