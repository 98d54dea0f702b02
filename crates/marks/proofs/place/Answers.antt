-- `place` meets its contract. Assumes nothing.
use borrow.Author.Rules.{rules}
use Rattle.marks.proofs.Marking.{place_few, place_full, place_yes}
use Rattle.state.proofs.Stacking.{few}
use native.Mathlib.Omega.{arith}
use Rattle.marks.proofs.place.Goals as goal

pub returns-then-height-ge128 : goal.returns-then-height-ge128
returns-then-height-ge128 c = search (rules, place_full)

pub overflow_sub-height : goal.overflow_sub-height
overflow_sub-height c = omega (arith, few _ _ c.requires c.has-there.ensures c.if-there.true)

pub put_mark-requires : goal.put_mark-requires
put_mark-requires c =
    (omega (arith, few _ _ c.requires c.has-there.ensures c.if-there.true), omega (arith, few _ _ c.requires c.has-there.ensures c.if-there.true))

pub returns-then-there : goal.returns-then-there
returns-then-there c = search (rules, place_yes)

pub returns : goal.returns
returns c = search (rules, place_few)
