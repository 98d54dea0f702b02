-- `reprint_one` meets its contract. Assumes nothing.
use Rattle.std.specs.Prelude.{Err}
use mathlib.Core.Path.{ap}
use native.Mathlib.Omega.{arith}
use native.Mathlib.Nat.{le_refl}
use Rattle.prints.proofs.Walking.{page_asks, whole_at}
use Rattle.masters.proofs.OneBody.{one_unfinished, one_ran}
use Rattle.masters.proofs.reprint_one.Goals as goal

pub preamble_of-q-requires : goal.preamble_of-q-requires
preamble_of-q-requires c =
    let g = page_asks _ _ c.requires.0 (le_refl _) in (omega (arith, c.requires.3), c.requires.1, g.0, g.1, c.requires.2, whole_at _ 0 c.requires.0 (omega arith))

pub returns-then-outcome_of-eq-OUT_OF_STEPS : goal.returns-then-outcome_of-eq-OUT_OF_STEPS
returns-then-outcome_of-eq-OUT_OF_STEPS c =
    λ bodies l h. one_unfinished c.args.s.now c.args.places.now _ _ _ _ l c.preamble_of-q.ensures _ _ _ _ _ _ c.outcome_of.ensures c.if-outcome_of-eq-OUT_OF_STEPS.true c.wipe.ensures (ap Err c.met_at.ensures)

pub returns : goal.returns
returns c =
    λ bodies l h. one_ran c.args.s.now c.args.places.now _ _ _ _ l c.preamble_of-q.ensures _ _ _ _ _ _ _ h c.requires.4 c.outcome_of.ensures c.if-outcome_of-eq-OUT_OF_STEPS.false c.wipe-2.ensures c.print_one.ensures
