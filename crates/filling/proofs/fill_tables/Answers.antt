-- `fill_tables` meets its contract: what is stored and what is left from `at` on are the whole list. Assumes nothing.
use Rattle.std.specs.Prelude.{Ok}
use mathlib.Core.Path.{refl, sym, ◌∙◌}
use mathlib.Core.List.{[], ◌++◌}
use Prim.Native.Nat.{◌-◌, ◌<◌}
use native.Mathlib.Omega.{arith}
use lib.ListN.{length}
use Rattle.tokens.proofs.Theorems.{token_says}
use Rattle.lists.specs.Promise.{texts_of, list_of}
use Rattle.filling.specs.Filling.{tokens_in, added}
use Rattle.filling.proofs.Filled.{Filled, filled_read, filled_room, filled_next, filled_end}
use Rattle.filling.proofs.fill_tables.Goals as goal
use Rattle.filling.proofs.fill_tables.Goals.{After-put_read-place}

turned : (c : After-put_read-place) →
    let a = c.args in let o = c.loop-place in let i = o.invariant in let r = c.put_read-place.result in
    Filled (tokens_in a.s.now) a.s.now a.list.now c.put_read-place.new.list a.text.now c.put_read-place.new.text (i.0 - 1) r.at r.p r.o
    (i.1 ++ added a.s.now o.place.at (Ok c.unwrap-token.result)) × (o.place.at < r.at)
turned c =
    let told = token_says c.args.s.now c.loop-place.place.at (λ i. omega (arith, c.type_inv.s i)) (omega arith) in
    filled_next c.loop-place.invariant.2 c.requires.0 c.requires.1 (omega arith) (sym c.unwrap-token.ensures ∙ c.read_token.ensures) told
    c.put_read-place.ensures c.put_read-place.auto.list c.put_read-place.auto.text

pub loop-place-init : goal.loop-place-init
unfolding list_of texts_of
loop-place-init c =
    (length c.args.s.now, [], record { room = omega arith; place = refl; texts = refl; before = omega arith; list_same = refl; text_same = refl; list_is = refl; text_is = refl; rest = refl })

pub read_token-requires : goal.read_token-requires
read_token-requires c = tt

pub unwrap-token-requires : goal.unwrap-token-requires
unwrap-token-requires c = filled_read c.loop-place.invariant.2 c.requires.0 c.requires.1 (omega arith) c.read_token.ensures

pub put_read-place-requires : goal.put_read-place-requires
put_read-place-requires c = filled_room c.loop-place.invariant.2 c.requires.0 c.requires.1 (omega arith) (sym c.unwrap-token.ensures ∙ c.read_token.ensures)

pub loop-place-smaller : goal.loop-place-smaller
loop-place-smaller c = omega (arith, (turned (goal.at.loop-place-smaller c).After-put_read-place).1)

pub loop-place-preserved : goal.loop-place-preserved
loop-place-preserved c =
    let o = c.loop-place in (
      o.invariant.0 - 1,
      o.invariant.1 ++ added c.args.s.now o.place.at (Ok c.unwrap-token.result),
      (turned (goal.at.loop-place-preserved c).After-put_read-place).0,
    )

pub shape_of-list : goal.shape_of-list
shape_of-list c = c.loop-place.invariant.2.list_same

pub shape_of-text : goal.shape_of-text
shape_of-text c = c.loop-place.invariant.2.text_same

pub returns : goal.returns
returns c = filled_end c.loop-place.invariant.2 (omega arith)
