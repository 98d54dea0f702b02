-- `numbers::wholes::whole_part` meets its contract: the library's n / 0 is 0. Assumes nothing.
use mathlib.Core.Path.{sym}
use native.Mathlib.Omega.{arith}
use native.Mathlib.Nat.{div-zero}
use Rattle.numbers.proofs.wholes.whole_part.Goals as goal

pub nonzero_div-result : goal.nonzero_div-result
nonzero_div-result c = omega arith

pub returns-then-d-eq0 : goal.returns-then-d-eq0
returns-then-d-eq0 c = rw c.if-d-eq0.true (sym (div-zero c.args.n))

pub returns-else-d-eq0 : goal.returns-else-d-eq0
returns-else-d-eq0 c = omega arith
