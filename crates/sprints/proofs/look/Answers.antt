-- `look` meets its contract. Assumes nothing.
use native.Mathlib.Omega.{arith}
use mathlib.Core.Path.{◌≡◌, refl, ap, ◌∙◌}
use Rattle.std.specs.Prelude.{Some}
use Rattle.machine.specs.declared.Effect.TheVariants.{Gives2, Acts}
use Rattle.machine.specs.declared.Next.TheVariants.{Works}
use Rattle.machine.specs.declared.Work.TheVariants.{Element}
use Rattle.machine.specs.declared.Op.TheVariants.{OnVectors}
use Rattle.sprints.proofs.Level.{flat_undone}
use Rattle.sprints.proofs.Swiftly.{by_vector, vector_arity_lem, plain_flat}
use Rattle.state.proofs.Stacking.{tops_fit}
use Rattle.effects.proofs.Executing.{small_value}
use Rattle.effects.proofs.Acting.{is_gives2, is_acts, by_works, at_element}
use Rattle.sprints.proofs.look.Goals as goal

pub returns-then-a-t : goal.returns-then-a-t
returns-then-a-t c = λ code n i. flat_undone _ (omega arith)

pub effect-e-requires : goal.effect-e-requires
effect-e-requires c = (small_value _ _ c.value_of-x.ensures, small_value _ _ c.value_of-y.ensures)

pub overflow_sub-q : goal.overflow_sub-q
overflow_sub-q c = tops_fit _ _ _ _ c.tops-t.ensures c.if-a-t.false

pub returns-in-Some-Gives2 : goal.returns-in-Some-Gives2
returns-in-Some-Gives2 c =
    let e = c.in-Some-Gives2.is in
    let j : c.in-Some-Gives2.field-0 ≡ Gives2 c.in-Some-Gives2.a c.in-Some-Gives2.b = rw e at c.in-Some-Gives2.field-0-is in
    λ code n i. plain_flat code n _ (OnVectors c.args.o) _ c.requires i (vector_arity_lem c.args.o _ c.arity-a.ensures) c.tops-t.ensures _ _ _ c.if-a-t.false c.value_of-x.ensures c.value_of-y.ensures (by_vector _ _ _ c.args.o c.effect-e.ensures.0) refl (is_gives2 code _ _ _ (e ∙ ap Some j) c.push_two.ensures) _ (rw (e ∙ ap Some j)) c.height_of.ensures

pub returns-in-Some-Acts-Works-Element : goal.returns-in-Some-Acts-Works-Element
returns-in-Some-Acts-Works-Element c =
    let e = c.in-Some-Acts-Works-Element.is in
    let j : c.in-Some-Acts-Works-Element.field-0 ≡ Acts c.in-Some-Acts-Works-Element.field-0-0 = rw e at c.in-Some-Acts-Works-Element.field-0-is in
    let k : c.in-Some-Acts-Works-Element.field-0-0 ≡ Works c.in-Some-Acts-Works-Element.field-0-0-0 = rw (e, j) at c.in-Some-Acts-Works-Element.field-0-0-is in
    let l : c.in-Some-Acts-Works-Element.field-0-0-0 ≡ Element c.in-Some-Acts-Works-Element.cell = rw (e, j, k) at c.in-Some-Acts-Works-Element.field-0-0-0-is in
    λ code n i. plain_flat code n _ (OnVectors c.args.o) _ c.requires i (vector_arity_lem c.args.o _ c.arity-a.ensures) c.tops-t.ensures _ _ _ c.if-a-t.false c.value_of-x.ensures c.value_of-y.ensures (by_vector _ _ _ c.args.o c.effect-e.ensures.0) refl (is_acts code _ _ (e ∙ ap Some j) (by_works code _ _ k (at_element code _ _ _ l c.size.ensures.0 c.element.ensures))) _ (rw (e, j, k, l)) c.height_of-in-Some-Acts-Works-Element.ensures

pub returns-in_default : goal.returns-in_default
returns-in_default c = λ code n i. flat_undone _ (omega arith)
