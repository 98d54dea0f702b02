-- `on` meets its contract. Assumes nothing.
use mathlib.Core.Path.{refl}
use Rattle.state.proofs.Stacking.{tops_fit}
use Rattle.effects.proofs.Executing.{busy_lower, small_value, plain_few, plain_done}
use Rattle.families.proofs.on.Goals as goal

pub returns-then-a-t : goal.returns-then-a-t
returns-then-a-t g c =
    λ n i. plain_few _ n _ (g.F.Family.op c.args.o) _ c.requires.0 i c.arity-a.ensures c.tops-t.ensures c.if-a-t.true refl

pub effect-e-requires : goal.effect-e-requires
effect-e-requires g c = (small_value _ _ c.value_of-x.ensures, small_value _ _ c.value_of-y.ensures)

pub overflow_sub-q : goal.overflow_sub-q
overflow_sub-q g c = tops_fit _ _ _ _ c.tops-t.ensures c.if-a-t.false

pub affect-requires : goal.affect-requires
affect-requires g c = (busy_lower _ c.requires.0 refl, c.requires.1, c.effect-e.ensures.1)

pub returns : goal.returns
returns g c =
    λ n i. plain_done _ n _ (g.F.Family.op c.args.o) _ c.requires.0 i c.arity-a.ensures c.tops-t.ensures _ _ _ c.if-a-t.false c.value_of-x.ensures c.value_of-y.ensures c.effect-e.ensures.0 refl c.affect.ensures
