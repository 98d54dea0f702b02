-- `print_one` meets its contract. Assumes nothing.
use native.Mathlib.Omega.{arith}
use native.Mathlib.Nat.{le_refl}
use Rattle.prints.proofs.Walking.{page_asks, whole_at}
use Rattle.masters.proofs.EveryBody.{ready_of}
use Rattle.masters.proofs.OneBody.{shown_first, shown_page}
use Rattle.masters.proofs.print_one.Goals as goal

pub returns-then-page-eq0 : goal.returns-then-page-eq0
returns-then-page-eq0 c =
    λ bodies l h. shown_first c.args.s.now c.args.places.now _ _ _ _ l c.requires.1 _ c.if-page-eq0.true c.show.ensures

pub page_of-r-requires : goal.page_of-r-requires
page_of-r-requires c =
    let g = page_asks _ _ c.requires.0 (le_refl _) in (ready_of _ _ _ _ c.requires.1, c.requires.2, g.0, g.1, g.2, g.3, c.requires.3, whole_at _ 0 c.requires.0 (omega arith), whole_at _ _ c.requires.0 (le_refl _))

pub returns : goal.returns
returns c =
    λ bodies l h. shown_page c.args.s.now c.args.places.now _ _ _ _ l c.requires.1 _ _ _ (omega (arith, c.if-page-eq0.false)) h c.page_of-r.ensures c.show-2.ensures
