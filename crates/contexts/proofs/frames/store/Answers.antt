-- `frames::store` meets its contract. Assumes nothing.
use mathlib.Core.Path.{sym, ◌∙◌, refl}
use native.Mathlib.Omega.{arith}
use Rattle.state.proofs.Framing.{store_empty, store_mark, store_far, store_yes, store_after}
use borrow.Author.Rules.{rules}
use Rattle.contexts.proofs.frames.store.Goals as goal

pub returns-then-height-eq0 : goal.returns-then-height-eq0
returns-then-height-eq0 c = search (rules, store_empty)

pub returns-then-v-eq5 : goal.returns-then-v-eq5
returns-then-v-eq5 c = search (rules, store_mark)

pub returns-then-j-ge50 : goal.returns-then-j-ge50
returns-then-j-ge50 c = search (rules, store_far)

pub returns : goal.returns
returns c =
    store_after c.own.ensures (store_yes c.args.j c.own.ensures.busy _ (c.get-v.ensures ∙ sym (c.own.ensures.stands _ (omega (arith, c.requires.stack_fits, c.if-height-eq0.false)))) c.if-height-eq0.false c.if-v-eq5.false c.own.ensures.own c.if-j-ge50.false c.put.ensures refl)
