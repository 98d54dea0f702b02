-- `test::type_number` meets its contract. Assumes nothing.
use mathlib.Core.Path.{sym, ap}
use Rattle.machine.specs.Ops.Test.{type_of}
use native.Mathlib.Omega.{arith}
use Rattle.operators.proofs.test.type_number.Goals as goal

pub returns-in-Number : goal.returns-in-Number
unfolding type_of
returns-in-Number c = (ap type_of (sym c.in-Number.is), omega arith)

pub returns-in-Identifier : goal.returns-in-Identifier
unfolding type_of
returns-in-Identifier c = (ap type_of (sym c.in-Identifier.is), omega arith)

pub returns-in-Vector : goal.returns-in-Vector
unfolding type_of
returns-in-Vector c = (ap type_of (sym c.in-Vector.is), omega arith)

pub returns-in-Operator : goal.returns-in-Operator
unfolding type_of
returns-in-Operator c = (ap type_of (sym c.in-Operator.is), omega arith)
