-- `arithmetic::compare` meets its contract: by the two tests of the numerators over the common denominator. Assumes nothing.
use mathlib.Core.Path.{sym, ◌∙◌}
use Rattle.arithmetic.proofs.Operations.{order_is}
use Rattle.arithmetic.proofs.compare.Goals as goal

pub over_common-x-requires : goal.over_common-x-requires
over_common-x-requires c = tt

pub over_common-y-requires : goal.over_common-y-requires
over_common-y-requires c = tt

pub less-requires : goal.less-requires
less-requires c = tt

pub less-requires-else-less : goal.less-requires-else-less
less-requires-else-less c = tt

pub returns-then-less : goal.returns-then-less
returns-then-less c =
    let s = c.args in rw (← order_is s.a s.b c.over_common-x.ensures.0 c.over_common-y.ensures.0, sym c.less.ensures ∙ c.if-less.true)

pub returns-then-less-2 : goal.returns-then-less-2
returns-then-less-2 c =
    let s = c.args in rw (← order_is s.a s.b c.over_common-x.ensures.0 c.over_common-y.ensures.0, sym c.less.ensures ∙ c.if-less.false, sym c.less-else-less.ensures ∙ c.if-less-2.true)

pub returns-else-less-2 : goal.returns-else-less-2
returns-else-less-2 c =
    let s = c.args in rw (← order_is s.a s.b c.over_common-x.ensures.0 c.over_common-y.ensures.0, sym c.less.ensures ∙ c.if-less.false, sym c.less-else-less.ensures ∙ c.if-less-2.false)
