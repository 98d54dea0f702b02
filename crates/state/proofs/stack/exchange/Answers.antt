-- `stack::exchange` meets its contract. Assumes nothing.
use native.Mathlib.Omega.{arith}
use mathlib.Core.Path.{refl}
use Rattle.state.proofs.Stacking.{exchange_few, tops_fit, exchange_yes}
use Rattle.state.proofs.stack.exchange.Goals as goal

pub returns-then-t-lt2 : goal.returns-then-t-lt2
returns-then-t-lt2 c = exchange_few _ c.requires c.tops-t.ensures c.if-t-lt2.true refl

pub overflow_sub-q : goal.overflow_sub-q
overflow_sub-q c = tops_fit _ _ 2 _ c.tops-t.ensures c.if-t-lt2.false

pub push_slots-requires : goal.push_slots-requires
push_slots-requires c = (omega arith, c.plain-x.ensures.1, c.plain-y.ensures.1)

pub returns : goal.returns
returns c =
    exchange_yes _ c.requires c.tops-t.ensures _ _ c.if-t-lt2.false c.plain-x.ensures.0 c.plain-y.ensures.0 refl c.push_slots.ensures
