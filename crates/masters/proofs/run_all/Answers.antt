-- `run_all` meets its contract. Assumes nothing.
use Rattle.std.specs.Prelude.{Err}
use mathlib.Core.Path.{ap}
use native.Mathlib.Omega.{arith}
use Rattle.prints.proofs.Walking.{whole_at}
use Rattle.masters.proofs.EveryBody.{ready_of, all_unfinished, all_ran}
use borrow.Author.Rules.{rules}
use Rattle.masters.proofs.run_all.Goals as goal

pub bounds-places-0 : goal.bounds-places-0
bounds-places-0 c = omega (arith, c.requires.0.wide)

pub bounds-places-1 : goal.bounds-places-1
bounds-places-1 c = omega (arith, c.requires.0.wide)

pub preamble_of-q-requires : goal.preamble_of-q-requires
preamble_of-q-requires c =
    let x = (c.requires.0.placed.each 0 c.requires.0.placed.some) in (omega (arith, c.requires.3), c.requires.1, x.ordered, x.inside, c.requires.2, whole_at _ 0 c.requires.0 (omega arith))

pub returns-then-outcome_of-eq-OUT_OF_STEPS : goal.returns-then-outcome_of-eq-OUT_OF_STEPS
returns-then-outcome_of-eq-OUT_OF_STEPS c =
    λ bodies l m. all_unfinished c.args.s.now c.args.places.now _ _ _ _ l c.preamble_of-q.ensures _ _ _ _ c.outcome_of.ensures c.if-outcome_of-eq-OUT_OF_STEPS.true c.wipe.ensures (ap Err c.met_at.ensures)

pub every_page-requires : goal.every_page-requires
every_page-requires c = (c.requires.0, ready_of _ _ _ _ c.preamble_of-q.ensures, c.requires.1, c.requires.2, search rules)

pub returns : goal.returns
returns c =
    λ bodies l m. all_ran c.args.s.now c.args.places.now _ _ _ _ l c.preamble_of-q.ensures _ _ _ _ _ _ m c.requires.4 c.outcome_of.ensures c.if-outcome_of-eq-OUT_OF_STEPS.false c.put_row.ensures c.every_page.ensures c.wipe-2.ensures
