-- `test` meets its contract. Assumes nothing.
use Rattle.machine.specs.declared.Op.TheVariants.{Tests}
use Rattle.effects.proofs.Acting.{is_gives}
use Rattle.state.proofs.Stacking.{tops_fit}
use mathlib.Core.Path.{◌≡◌, refl, ap, ◌∙◌}
use Rattle.std.specs.Prelude.{Some}
use Rattle.machine.specs.declared.Effect.TheVariants.{Gives}
use native.Mathlib.Omega.{arith}
use Rattle.sprints.proofs.Level.{flat_undone}
use Rattle.sprints.proofs.Swiftly.{by_test, plain_flat}
use Rattle.sprints.proofs.test.Goals as goal

pub returns-then-t-lt2 : goal.returns-then-t-lt2
returns-then-t-lt2 c = λ code n i. flat_undone _ (omega arith)

pub returns-then-t-eq2 : goal.returns-then-t-eq2
returns-then-t-eq2 c = λ code n i. flat_undone _ (omega arith)

pub overflow_sub-q : goal.overflow_sub-q
overflow_sub-q c = tops_fit _ _ _ _ c.tops-t.ensures c.if-t-lt2.false

pub returns-in-Some-Gives : goal.returns-in-Some-Gives
returns-in-Some-Gives c =
    let e = c.in-Some-Gives.is in
    let j : c.in-Some-Gives.field-0 ≡ Gives c.in-Some-Gives.a = rw e at c.in-Some-Gives.field-0-is in
    λ code n i. plain_flat code n 2 (Tests c.args.o) _ c.requires.0 i (c.requires.1, omega arith) c.tops-t.ensures _ _ _ c.if-t-lt2.false c.value_of-x.ensures c.value_of-y.ensures (by_test _ _ _ c.args.o c.effect-e.ensures.0) refl (is_gives code _ _ (e ∙ ap Some j) c.push_number.ensures) _ (rw (e ∙ ap Some j)) c.height_of.ensures

pub returns-in_default : goal.returns-in_default
returns-in_default c = λ code n i. flat_undone _ (omega arith)
