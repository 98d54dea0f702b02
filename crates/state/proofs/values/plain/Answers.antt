-- `values::plain` meets its contract. Assumes nothing.
use mathlib.Core.Path.{refl}
use Rattle.state.specs.Layout.{value_in}
use native.Mathlib.Omega.{arith}
use Rattle.state.proofs.values.plain.Goals as goal

pub returns-then-v-eq5 : goal.returns-then-v-eq5
unfolding value_in
returns-then-v-eq5 c = (rw c.if-v-eq5.true refl, λ e. omega arith)
