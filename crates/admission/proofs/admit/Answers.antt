-- `admit` meets its contract: the length, the tables, the allowance, then the skeleton. Assumes nothing.
use Rattle.std.specs.Prelude.{Err}
use mathlib.Core.Path.{refl, ap}
use lib.IntN.{pos}
use mir.Facts.{to_z-of_z}
use Rattle.machine.specs.Promise.{allowed}
use Rattle.admission.proofs.Admitting.{asked, too_long, too_short, not_allowed, surveyed}
use Rattle.admission.proofs.admit.Goals as goal

pub returns-then-s-gt-LONGEST : goal.returns-then-s-gt-LONGEST
returns-then-s-gt-LONGEST c = too_long _ _ _ _ _ (ap Err c.met_at.ensures) c.if-s-gt-LONGEST.true

pub returns-then-not-enough : goal.returns-then-not-enough
returns-then-not-enough c = too_short _ _ _ _ _ (ap Err c.met_at-then-not-enough.ensures) c.if-s-gt-LONGEST.false c.if-not-enough.true

pub returns-then-not-within : goal.returns-then-not-within
unfolding allowed
returns-then-not-within c =
    let e = asked (pos 1) (to_z-of_z c.ranges.allowance) refl c.within.ensures c.if-not-within.true in
    not_allowed _ _ _ _ _ (ap Err c.met_at-then-not-within.ensures) c.if-s-gt-LONGEST.false c.if-not-enough.false e

pub returns : goal.returns
unfolding allowed
returns c =
    surveyed _ _ _ _ c.if-s-gt-LONGEST.false c.if-not-enough.false (asked (pos 1) (to_z-of_z c.ranges.allowance) refl c.within.ensures c.if-not-within.false) _ c.survey.ensures
