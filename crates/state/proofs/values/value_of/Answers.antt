-- `values::value_of` meets its contract. Assumes nothing.
use Rattle.state.proofs.Coding.{from_identifier, from_vector, from_operator, from_number}
use native.Mathlib.Omega.{arith}
use Rattle.state.proofs.values.value_of.Goals as goal

pub returns-then-v-eq2 : goal.returns-then-v-eq2
returns-then-v-eq2 c = from_identifier _ c.if-v-eq2.true

pub returns-then-v-eq3 : goal.returns-then-v-eq3
returns-then-v-eq3 c = from_vector _ c.if-v-eq3.true

pub returns-then-v-eq4 : goal.returns-then-v-eq4
returns-then-v-eq4 c = from_operator _ c.if-v-eq4.true

pub returns : goal.returns
returns c =
    from_number c.args.v c.if-v-eq2.false c.if-v-eq3.false c.if-v-eq4.false (omega arith) c.of_word.ensures
