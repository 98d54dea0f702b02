-- `due_of` meets its contract. Assumes nothing.
use mathlib.Core.Path.{refl}
use Rattle.origins.proofs.ByOrigin.{stands_early, stands_own, due_early, due_own, due_none}
use Rattle.origins.proofs.due_of.Goals as goal

pub due-requires : goal.due-requires
due-requires c =
    let p = c.requires in (p.0.pre_fits, p.1.in_pre, stands_early _ _ _ _ c.if-origin-eq0.true p.2)

pub returns-then-origin-eq0 : goal.returns-then-origin-eq0
returns-then-origin-eq0 c = due_early _ _ _ _ c.requires.1 c.if-origin-eq0.true c.due.ensures

pub due-requires-then-origin-eq1 : goal.due-requires-then-origin-eq1
due-requires-then-origin-eq1 c =
    let p = c.requires in (p.0.body_fits, p.1.in_body, stands_own _ _ _ _ c.if-origin-eq1.true p.2)

pub returns-then-origin-eq1 : goal.returns-then-origin-eq1
returns-then-origin-eq1 c = due_own _ _ _ _ c.requires.1 c.if-origin-eq1.true c.due-then-origin-eq1.ensures

pub returns : goal.returns
returns c = due_none _ _ _ _ c.requires.1 c.if-origin-eq0.false c.if-origin-eq1.false refl
