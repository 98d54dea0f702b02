-- `cells::compose` meets its contract. Assumes nothing.
use Rattle.store.proofs.Charging.{compose_full, compose_over, compose_yes}
use Rattle.state.proofs.Framing.{frame_inside}
use mathlib.Core.Path.{refl}
use native.Mathlib.Omega.{arith}
use borrow.Author.Rules.{rules}
use Rattle.store.proofs.cells.compose.Goals as goal

pub returns-then-height-ge128 : goal.returns-then-height-ge128
returns-then-height-ge128 c = search (rules, compose_full)

pub returns-then-used-gt1024 : goal.returns-then-used-gt1024
returns-then-used-gt1024 c = search (rules, compose_over)

pub copy_long-requires : goal.copy_long-requires
copy_long-requires c =
    (omega (arith, c.requires.room, c.requires.cells_fit, c.size.ensures.0, frame_inside _ _ _ c.requires c.get-c.ensures), omega (arith, c.requires.room, c.if-used-gt1024.false))

pub returns : goal.returns
returns c =
    compose_yes _ _ c.requires c.if-height-ge128.false _ _ _ c.if-used-gt1024.false c.get-c.ensures (rw c.size.ensures.0 at c.copy_long.ensures) c.word-first.ensures c.put.ensures refl
