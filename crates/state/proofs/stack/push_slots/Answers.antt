-- `stack::push_slots` meets its contract. Assumes nothing.
use native.Mathlib.Omega.{arith}
use mathlib.Core.Path.{refl}
use Rattle.state.proofs.Stacking.{two_no, two_yes}
use borrow.Author.Rules.{rules}
use Rattle.state.proofs.stack.push_slots.Goals as goal

pub returns-then-height-ge127 : goal.returns-then-height-ge127
returns-then-height-ge127 c = search (rules, two_no)

pub returns : goal.returns
returns c =
    two_yes _ _ c.requires.0 _ _ _ (omega (arith, c.if-height-ge127.false)) (refl, c.requires.1) (refl, c.requires.2) c.put.ensures c.put-2.ensures refl
