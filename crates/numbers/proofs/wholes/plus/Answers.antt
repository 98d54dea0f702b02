-- `numbers::wholes::plus` meets its contract: like signs add up, unlike signs leave the larger's. Assumes nothing.
use mathlib.Core.Path.{sym, ◌∙◌}
use native.Mathlib.Omega.{arith}
use Rattle.numbers.proofs.Signs.{signed_under, signed_above, signed_add}
use Rattle.numbers.proofs.wholes.plus.Goals as goal

pub unlike-requires : goal.unlike-requires
unlike-requires c = tt

pub overflow_sub-result : goal.overflow_sub-result
overflow_sub-result c = omega arith

pub overflow_add-result : goal.overflow_add-result
overflow_add-result c = omega arith

pub returns-then-a-b : goal.returns-then-a-b
returns-then-a-b c =
    let a = c.args in signed_under a.a.below a.b.below a.a.size a.b.size (sym c.unlike.ensures ∙ c.if-unlike.true) (omega arith)

pub returns-else-a-b : goal.returns-else-a-b
returns-else-a-b c =
    let a = c.args in signed_above a.a.below a.b.below a.a.size a.b.size (sym c.unlike.ensures ∙ c.if-unlike.true) (omega arith)

pub returns-else-unlike : goal.returns-else-unlike
returns-else-unlike c =
    let a = c.args in signed_add a.a.below a.b.below a.a.size a.b.size (sym c.unlike.ensures ∙ c.if-unlike.false)
