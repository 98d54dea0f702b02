-- `numbers::wholes::rest_of_floor` meets its contract: nothing to divide by, nothing left, unlike signs, like signs. Assumes nothing.
use mathlib.Core.Path.{sym, ◌∙◌}
use native.Mathlib.Nat.{mod-lt}
use native.Mathlib.Omega.{arith}
use Rattle.numbers.proofs.Rounding.{zero_rest, floor_rest_exact, floor_rest_like, floor_rest_unlike}
use Rattle.numbers.proofs.wholes.rest_of_floor.Goals as goal

pub returns-then-y-eq0 : goal.returns-then-y-eq0
returns-then-y-eq0 c =
    let a = c.args in zero_rest a.x.below a.y.below a.x.size a.y.size _ c.if-y-eq0.true

pub nonzero_rem-rest : goal.nonzero_rem-rest
nonzero_rem-rest c = omega arith

pub natural-requires : goal.natural-requires
natural-requires c = tt

pub returns-then-rest-eq0 : goal.returns-then-rest-eq0
returns-then-rest-eq0 c =
    let a = c.args in c.natural.ensures.0 ∙ floor_rest_exact a.x.below a.y.below a.x.size a.y.size (omega arith) c.if-rest-eq0.true

pub unlike-requires : goal.unlike-requires
unlike-requires c = tt

pub overflow_sub-result : goal.overflow_sub-result
overflow_sub-result c =
    let a = c.args in omega (arith, mod-lt a.x.size {m = a.y.size} (omega arith))

pub returns-then-unlike : goal.returns-then-unlike
returns-then-unlike c =
    let a = c.args in floor_rest_unlike a.x.below a.y.below a.x.size a.y.size (omega arith) (sym c.unlike.ensures ∙ c.if-unlike.true) (omega arith)

pub returns-else-unlike : goal.returns-else-unlike
returns-else-unlike c =
    let a = c.args in floor_rest_like a.x.below a.y.below a.x.size a.y.size (omega arith) (sym c.unlike.ensures ∙ c.if-unlike.false)
