use borrow.Author.Tests.{eqb-true}
use Rattle.state.proofs.Ending.{not_on}
use Rattle.sprints.proofs.Rows.{left_stood, left_on, still, operator_solid, fallen, rolling_start, rolling_stop, rolling_on, rolling_ends}
use mathlib.Core.Path.{refl}
use native.Mathlib.Omega.{arith}
use Rattle.sprints.proofs.row.Goals as goal

pub loop-left-init : goal.loop-left-init
loop-left-init c = (rolling_start _ _ _ c.requires.1 c.requires.4, c.requires.5)

pub literal-t-requires : goal.literal-t-requires
literal-t-requires c =
    (c.requires.0, c.loop-left.invariant.0.busy, still c.loop-left.invariant.0 c.requires.2, c.loop-left.invariant.0.low, left_stood c.loop-left.invariant.1)

pub shape_of-w-then-t-gt128 : goal.shape_of-w-then-t-gt128
shape_of-w-then-t-gt128 c = omega (arith, c.w-1.given, c.loop-left.invariant.0.long)

pub returns-then-t-gt128 : goal.returns-then-t-gt128
returns-then-t-gt128 c =
    (c.loop-left.invariant.0.within, c.loop-left.invariant.0.inside, λ k. (c.loop-left-test.true, c.literal-t.ensures.told k, (left_stood c.loop-left.invariant.1).1 (operator_solid _ _ _ _ (c.literal-t.ensures.told k))), λ f. let z = fallen _ (eqb-true _ _ f) in (c.loop-left-test.true, c.literal-t.ensures.next z, c.literal-t.ensures.inside z), λ code n eb. rolling_stop c.loop-left.invariant.0 c.requires.2 _ _ _ (λ k. operator_solid _ _ _ _ (c.literal-t.ensures.told k)) (λ f. let z = fallen _ (eqb-true _ _ f) in (c.literal-t.ensures.token z, λ d. (c.literal-t.ensures.does z d).fails (eqb-true _ _ f))) (c.literal-t.ensures.back c.if-t-gt128.true) code n eb)

pub overflow_sub-left : goal.overflow_sub-left
overflow_sub-left c = omega (arith, c.loop-left-test.true)

pub shape_of-w-then-p-end : goal.shape_of-w-then-p-end
shape_of-w-then-p-end c = omega (arith, c.w-1.given, c.loop-left.invariant.0.long)

pub returns-then-p-end : goal.returns-then-p-end
returns-then-p-end c =
    (omega (arith, c.loop-left.invariant.0.within), λ h. c.literal-t.ensures.inside (λ z. omega (arith, c.if-t-gt128.false)), λ k. absurd (k refl), λ k. not_on k, λ code n eb. rolling_ends c.loop-left.invariant.0 c.requires.2 _ c.literal-t.ensures c.if-t-gt128.false c.loop-left-test.true c.w-1.given code n eb)

pub loop-left-smaller : goal.loop-left-smaller
loop-left-smaller c = omega (arith, c.loop-left-test.true)

pub loop-left-preserved : goal.loop-left-preserved
loop-left-preserved c =
    (rolling_on c.loop-left.invariant.0 c.requires.2 _ c.literal-t.ensures c.if-t-gt128.false c.loop-left-test.true c.w-1.given (omega (arith, c.if-p-end.false, c.requires.3)), left_on c.loop-left.invariant.1 _ (c.literal-t.ensures.token (λ z. omega (arith, z, c.if-t-gt128.false))) (c.literal-t.ensures.next (λ z. omega (arith, z, c.if-t-gt128.false))) (omega (arith, c.if-p-end.false)))

pub shape_of-w : goal.shape_of-w
shape_of-w c = c.loop-left.invariant.0.long

pub returns : goal.returns
returns c =
    (c.loop-left.invariant.0.within, c.loop-left.invariant.0.inside, λ k. absurd (k refl), λ k. not_on k, λ code n eb. rolling_stop c.loop-left.invariant.0 c.requires.2 _ _ _ (λ k. absurd (k refl)) (λ k. not_on k) refl code n eb)
