-- `framed` meets its contract. Assumes nothing.
use Rattle.sprints.proofs.Level.{flat_undone}
use Rattle.sprints.proofs.Swiftly.{frame_one, by_frame}
use Rattle.effects.proofs.Acting.{is_acts, by_works, by_store, at_fetch}
use Rattle.state.proofs.Stacking.{tops_fit}
use Rattle.sprints.proofs.Swiftly.{plain_flat}
use Rattle.machine.specs.declared.Op.TheVariants.{OnFrame}
use Rattle.state.specs.Layout.{value_in}
use mathlib.Core.Path.{◌≡◌, refl, ap, ◌∙◌}
use Rattle.std.specs.Prelude.{Some}
use Rattle.machine.specs.declared.Effect.TheVariants.{Acts}
use Rattle.machine.specs.declared.Next.TheVariants.{Works, Store}
use Rattle.machine.specs.declared.Work.TheVariants.{Fetch}
use native.Mathlib.Omega.{arith}
use Rattle.sprints.proofs.framed.Goals as goal

pub returns-then-t-lt1 : goal.returns-then-t-lt1
returns-then-t-lt1 c = λ code n i. flat_undone _ (omega arith)

pub overflow_sub-q : goal.overflow_sub-q
overflow_sub-q c = tops_fit _ _ _ _ c.tops-t.ensures c.if-t-lt1.false

pub returns-in-Some-Acts-Works-Fetch : goal.returns-in-Some-Acts-Works-Fetch
returns-in-Some-Acts-Works-Fetch c =
    let e = c.in-Some-Acts-Works-Fetch.is in
    let j : c.in-Some-Acts-Works-Fetch.field-0 ≡ Acts c.in-Some-Acts-Works-Fetch.field-0-0 = rw e at c.in-Some-Acts-Works-Fetch.field-0-is in
    let k : c.in-Some-Acts-Works-Fetch.field-0-0 ≡ Works c.in-Some-Acts-Works-Fetch.field-0-0-0 = rw (e, j) at c.in-Some-Acts-Works-Fetch.field-0-0-is in
    let l : c.in-Some-Acts-Works-Fetch.field-0-0-0 ≡ Fetch c.in-Some-Acts-Works-Fetch.j = rw (e, j, k) at c.in-Some-Acts-Works-Fetch.field-0-0-0-is in
    λ code n i. plain_flat code n 1 (OnFrame c.args.o) _ c.requires i (frame_one c.args.o) c.tops-t.ensures _ (value_in c.tops-t.result.second) _ c.if-t-lt1.false c.value_of-x.ensures refl (by_frame _ _ _ c.args.o c.effect-e.ensures.0) refl (is_acts code _ _ (e ∙ ap Some j) (by_works code _ _ k (at_fetch code _ _ _ l c.size.ensures.0 c.fetch.ensures))) _ (rw (e, j, k, l)) c.height_of.ensures

pub returns-in-Some-Acts-Store : goal.returns-in-Some-Acts-Store
returns-in-Some-Acts-Store c =
    let e = c.in-Some-Acts-Store.is in
    let j : c.in-Some-Acts-Store.field-0 ≡ Acts c.in-Some-Acts-Store.field-0-0 = rw e at c.in-Some-Acts-Store.field-0-is in
    let k : c.in-Some-Acts-Store.field-0-0 ≡ Store c.in-Some-Acts-Store.j = rw (e, j) at c.in-Some-Acts-Store.field-0-0-is in
    λ code n i. plain_flat code n 1 (OnFrame c.args.o) _ c.requires i (frame_one c.args.o) c.tops-t.ensures _ (value_in c.tops-t.result.second) _ c.if-t-lt1.false c.value_of-x.ensures refl (by_frame _ _ _ c.args.o c.effect-e.ensures.0) refl (is_acts code _ _ (e ∙ ap Some j) (by_store code _ _ _ k c.size-in-Some-Acts-Store.ensures.0 c.store.ensures)) _ (rw (e, j, k)) c.height_of-in-Some-Acts-Store.ensures

pub returns-in_default : goal.returns-in_default
returns-in_default c = λ code n i. flat_undone _ (omega arith)
