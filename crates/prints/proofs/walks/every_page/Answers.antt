-- `walks::every_page` meets its contract. Assumes nothing.
use native.Mathlib.Omega.{arith}
use Rattle.prints.proofs.Walking.{walk_starts, row_asks, walk_goes, walk_ends}
use borrow.Author.Rules.{rules}
use Rattle.prints.proofs.walks.every_page.Goals as goal

pub bounds-places-0 : goal.bounds-places-0
bounds-places-0 c = omega (arith, c.requires.0.wide)

pub loop-n-init : goal.loop-n-init
loop-n-init c = walk_starts _ _ _ _ _ _ _ c.requires.1

pub page_row-requires : goal.page_row-requires
page_row-requires c =
    row_asks c.args.s.now _ _ _ _ _ _ _ _ _ c.requires.0 c.loop-n-test.true c.loop-n.invariant c.requires.2 c.requires.3 c.requires.4

pub loop-n-preserved : goal.loop-n-preserved
loop-n-preserved c =
    walk_goes _ _ _ _ _ _ _ _ _ _ c.requires.0 c.loop-n-test.true c.loop-n.invariant _ _ c.page_row.ensures (search rules) (search rules)

pub shape_of-w : goal.shape_of-w
shape_of-w c = c.loop-n.invariant.w_long

pub shape_of-rows : goal.shape_of-rows
shape_of-rows c = c.loop-n.invariant.rows_long

pub returns : goal.returns
returns c = walk_ends _ _ _ _ _ _ _ _ _ _ c.loop-n-test.false c.loop-n.invariant
