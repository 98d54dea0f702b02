-- `cells::is_cardinal` meets its contract. Assumes nothing.
use mathlib.Core.Logic.{inl, inr}
use Rattle.store.proofs.Cardinals.{no_number, no_integer, sized}
use Rattle.store.proofs.cells.is_cardinal.Goals as goal

pub returns-then-v-eq2 : goal.returns-then-v-eq2
returns-then-v-eq2 c = no_number c.args.v (inl c.if-v-eq2.true)

pub returns-then-v-eq3 : goal.returns-then-v-eq3
returns-then-v-eq3 c = no_number c.args.v (inr (inl c.if-v-eq3.true))

pub returns-then-v-eq4 : goal.returns-then-v-eq4
returns-then-v-eq4 c = no_number c.args.v (inr (inr c.if-v-eq4.true))

pub returns-then-v-ne1 : goal.returns-then-v-ne1
returns-then-v-ne1 c = no_integer c.args.v c.if-v-eq2.false c.if-v-eq3.false c.if-v-eq4.false c.if-v-ne1.true

pub returns : goal.returns
returns c = sized c.args.v c.if-v-eq2.false c.if-v-eq3.false c.if-v-eq4.false c.if-v-ne1.false
