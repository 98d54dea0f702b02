-- `mark` meets its contract. Assumes nothing.
use Rattle.effects.proofs.Executing.{busy_lower}
use Rattle.state.proofs.Stacking.{tops_fit}
use mathlib.Core.Path.{refl}
use native.Mathlib.Omega.{arith}
use Rattle.sprints.proofs.Level.{flat_undone}
use Rattle.sprints.proofs.Swiftly.{mark_flat}
use Rattle.sprints.proofs.mark.Goals as goal

pub returns-then-r-clear : goal.returns-then-r-clear
returns-then-r-clear c = λ code. flat_undone _ (omega arith)

pub returns-then-t-lt1 : goal.returns-then-t-lt1
returns-then-t-lt1 c = λ code. flat_undone _ (omega arith)

pub returns-then-n-ne0 : goal.returns-then-n-ne0
returns-then-n-ne0 c = λ code. flat_undone _ (omega arith)

pub overflow_sub-q : goal.overflow_sub-q
overflow_sub-q c = tops_fit _ _ _ _ c.tops-t.ensures c.if-t-lt1.false

pub place_bare-requires : goal.place_bare-requires
place_bare-requires c = busy_lower 1 c.requires refl

pub returns-in_default : goal.returns-in_default
returns-in_default c = λ code. flat_undone _ (omega arith)

pub returns : goal.returns
returns c =
    λ code. mark_flat code _ _ _ c.requires c.tops-t.ensures c.if-t-lt1.false _ c.value_of.ensures _ c.cardinal.ensures.0 c.in-Some.is (omega (arith, c.if-n-ne0.false)) c.if-r-clear.false refl c.place_bare.ensures c.height_of.ensures
