-- `arithmetic::rest_over` meets its contract: of any q for which the rest is a - b q. Assumes nothing.
use mathlib.Core.Path.{sym, ◌∙◌}
use native.Mathlib.Omega.{arith}
use Rattle.arithmetic.proofs.Operations.{less_times_zero, less_times_is}
use Rattle.arithmetic.proofs.rest_over.Goals as goal

pub over_common-requires : goal.over_common-requires
over_common-requires c = tt

pub returns-then-over_common-eq0 : goal.returns-then-over_common-eq0
returns-then-over_common-eq0 c = λ q e. less_times_zero _ _ q (sym c.over_common.ensures.1 ∙ omega (arith, c.if-over_common-eq0.true))

pub common_of-requires : goal.common_of-requires
common_of-requires c = tt

pub ratio_of-requires : goal.ratio_of-requires
ratio_of-requires c = tt

pub returns : goal.returns
returns c =
    λ q e. let s = c.args in c.ratio_of.ensures ∙ rw (e, c.common_of.ensures) (less_times_is s.a s.b q (λ z. omega (arith, c.if-over_common-eq0.false, c.over_common.ensures.1 ∙ z)))
