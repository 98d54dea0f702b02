-- `pop` meets its contract. Assumes nothing.
use Rattle.sprints.proofs.Swiftly.{pop_flat}
use Rattle.state.proofs.Stacking.{tops_fit}
use native.Mathlib.Omega.{arith}
use Rattle.sprints.proofs.Level.{flat_undone}
use Rattle.sprints.proofs.pop.Goals as goal

pub returns-then-t-lt1 : goal.returns-then-t-lt1
returns-then-t-lt1 c = λ code. flat_undone _ (omega arith)

pub overflow_sub-result : goal.overflow_sub-result
overflow_sub-result c = tops_fit _ _ _ _ c.tops-t.ensures c.if-t-lt1.false

pub returns : goal.returns
returns c =
    λ code. pop_flat code _ c.requires c.tops-t.ensures c.if-t-lt1.false (tops_fit _ _ _ _ c.tops-t.ensures c.if-t-lt1.false)
