-- `holder` meets its contract. Assumes nothing.
use borrow.Author.Rules.{rules}
use mathlib.Core.Path.{refl}
use Rattle.state.proofs.Stacking.{tops_fit}
use Rattle.effects.proofs.Executing.{busy_lower, holder_few, holder_done}
use Rattle.families.proofs.holder.Goals as goal

pub returns-then-a-t : goal.returns-then-a-t
returns-then-a-t c = search (rules, holder_few)

pub overflow_sub-q : goal.overflow_sub-q
overflow_sub-q c = tops_fit _ _ _ _ c.tops-t.ensures c.if-a-t.false

pub affect_body-requires : goal.affect_body-requires
affect_body-requires c = (busy_lower _ c.requires.0 refl, c.requires.1, c.effect-e.ensures.1)

pub returns : goal.returns
returns c =
    holder_done _ _ _ _ _ _ _ c.requires.0 c.body_op_of-o.ensures c.arity-a.ensures c.tops-t.ensures _ _ c.if-a-t.false c.value_of-x.ensures c.effect-e.ensures.0 refl c.affect_body.ensures
