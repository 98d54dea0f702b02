-- `affect` of `VectorOp` meets its contract. Assumes nothing.
use mathlib.Core.Path.{◌≡◌, ap, ◌∙◌}
use Rattle.std.specs.Prelude.{Some}
use Rattle.machine.specs.declared.Effect.TheVariants.{Gives2, Acts}
use Rattle.machine.specs.declared.Next.TheVariants.{Works}
use Rattle.machine.specs.declared.Work.TheVariants.{Element, Build}
use Rattle.effects.proofs.Acting.{is_gives2, is_acts, by_works, at_element, at_build}
use Rattle.families.proofs.kinds.VectorOpFamily.affect.Goals as goal

pub returns-in-Some-Gives2 : goal.returns-in-Some-Gives2
returns-in-Some-Gives2 c =
    let i = c.in-Some-Gives2.is in
    let j : c.in-Some-Gives2.field-0 ≡ Gives2 c.in-Some-Gives2.a c.in-Some-Gives2.b = rw i at c.in-Some-Gives2.field-0-is in
    is_gives2 _ _ _ _ (i ∙ ap Some j) c.push_two.ensures

pub returns-in-Some-Acts-Works-Element : goal.returns-in-Some-Acts-Works-Element
returns-in-Some-Acts-Works-Element c =
    let i = c.in-Some-Acts-Works-Element.is in
    let j : c.in-Some-Acts-Works-Element.field-0 ≡ Acts c.in-Some-Acts-Works-Element.field-0-0 = rw i at c.in-Some-Acts-Works-Element.field-0-is in
    let k : c.in-Some-Acts-Works-Element.field-0-0 ≡ Works c.in-Some-Acts-Works-Element.field-0-0-0 = rw (i, j) at c.in-Some-Acts-Works-Element.field-0-0-is in
    let l : c.in-Some-Acts-Works-Element.field-0-0-0 ≡ Element c.in-Some-Acts-Works-Element.cell = rw (i, j, k) at c.in-Some-Acts-Works-Element.field-0-0-0-is in
    is_acts _ _ _ (i ∙ ap Some j) (by_works _ _ _ k (at_element _ _ _ _ l c.size.ensures.0 c.element.ensures))

pub returns-in-Some-Acts-Works-Build : goal.returns-in-Some-Acts-Works-Build
returns-in-Some-Acts-Works-Build c =
    let i = c.in-Some-Acts-Works-Build.is in
    let j : c.in-Some-Acts-Works-Build.field-0 ≡ Acts c.in-Some-Acts-Works-Build.field-0-0 = rw i at c.in-Some-Acts-Works-Build.field-0-is in
    let k : c.in-Some-Acts-Works-Build.field-0-0 ≡ Works c.in-Some-Acts-Works-Build.field-0-0-0 = rw (i, j) at c.in-Some-Acts-Works-Build.field-0-0-is in
    let l : c.in-Some-Acts-Works-Build.field-0-0-0 ≡ Build c.in-Some-Acts-Works-Build.lower c.in-Some-Acts-Works-Build.count = rw (i, j, k) at c.in-Some-Acts-Works-Build.field-0-0-0-is in
    is_acts _ _ _ (i ∙ ap Some j) (by_works _ _ _ k (at_build _ _ _ _ _ l c.size-in-Some-Acts-Works-Build.ensures.0 c.build.ensures))
