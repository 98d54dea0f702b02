-- `affect` of `StackOp` meets its contract. Assumes nothing.
use mathlib.Core.Path.{◌≡◌, ap, ◌∙◌, refl}
use Rattle.std.specs.Prelude.{Some}
use Rattle.machine.specs.declared.Effect.TheVariants.{Acts}
use Rattle.machine.specs.declared.Next.TheVariants.{Works}
use Rattle.machine.specs.declared.Work.TheVariants.{Nothing}
use Rattle.effects.proofs.Acting.{is_acts, by_works, nothing_done}
use Rattle.families.proofs.kinds.StackOpFamily.affect.Goals as goal

pub returns-in-Some-Acts-Works-Nothing : goal.returns-in-Some-Acts-Works-Nothing
returns-in-Some-Acts-Works-Nothing c =
    let i = c.in-Some-Acts-Works-Nothing.is in
    let j : c.in-Some-Acts-Works-Nothing.field-0 ≡ Acts c.in-Some-Acts-Works-Nothing.field-0-0 = rw i at c.in-Some-Acts-Works-Nothing.field-0-is in
    let k : c.in-Some-Acts-Works-Nothing.field-0-0 ≡ Works c.in-Some-Acts-Works-Nothing.field-0-0-0 = rw (i, j) at c.in-Some-Acts-Works-Nothing.field-0-0-is in
    let l : c.in-Some-Acts-Works-Nothing.field-0-0-0 ≡ Nothing = rw (i, j, k) at c.in-Some-Acts-Works-Nothing.field-0-0-0-is in
    is_acts _ _ _ (i ∙ ap Some j) (by_works _ _ _ (k ∙ ap Works l) (nothing_done _ c.requires.0 refl))
