-- `affect_body` meets its contract. Assumes nothing.
use mathlib.Core.Path.{◌≡◌, ap, ◌∙◌, refl}
use Rattle.std.specs.Prelude.{Some}
use Rattle.machine.specs.declared.Effect.TheVariants.{Acts}
use Rattle.machine.specs.declared.Next.TheVariants.{Works, Inline}
use Rattle.machine.specs.declared.Work.TheVariants.{Nothing}
use Rattle.effects.proofs.Acting.{is_acts, by_inline, by_works, nothing_done}
use Rattle.families.proofs.affect_body.Goals as goal

pub returns-in-Some-Acts-Inline : goal.returns-in-Some-Acts-Inline
returns-in-Some-Acts-Inline c =
    let i = c.in-Some-Acts-Inline.is in
    let j : c.in-Some-Acts-Inline.field-0 ≡ Acts c.in-Some-Acts-Inline.field-0-0 = rw i at c.in-Some-Acts-Inline.field-0-is in
    let k : c.in-Some-Acts-Inline.field-0-0 ≡ Inline c.in-Some-Acts-Inline.start c.in-Some-Acts-Inline.len c.in-Some-Acts-Inline.owes = rw (i, j) at c.in-Some-Acts-Inline.field-0-0-is in
    is_acts _ _ _ (i ∙ ap Some j) (by_inline _ _ _ _ _ k c.inline.ensures)

pub returns-in-Some-Acts-Works-Nothing : goal.returns-in-Some-Acts-Works-Nothing
returns-in-Some-Acts-Works-Nothing c =
    let i = c.in-Some-Acts-Works-Nothing.is in
    let j : c.in-Some-Acts-Works-Nothing.field-0 ≡ Acts c.in-Some-Acts-Works-Nothing.field-0-0 = rw i at c.in-Some-Acts-Works-Nothing.field-0-is in
    let k : c.in-Some-Acts-Works-Nothing.field-0-0 ≡ Works c.in-Some-Acts-Works-Nothing.field-0-0-0 = rw (i, j) at c.in-Some-Acts-Works-Nothing.field-0-0-is in
    let l : c.in-Some-Acts-Works-Nothing.field-0-0-0 ≡ Nothing = rw (i, j, k) at c.in-Some-Acts-Works-Nothing.field-0-0-0-is in
    is_acts _ _ _ (i ∙ ap Some j) (by_works _ _ _ (k ∙ ap Works l) (nothing_done _ c.requires.0 refl))
