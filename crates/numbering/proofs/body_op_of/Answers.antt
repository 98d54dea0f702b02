-- `numbering::body_op_of` meets its contract. Assumes nothing.
use mathlib.Core.Path.{sym, ap}
use borrow.Author.Tests.{ne_eqb}
use Rattle.machine.specs.Operators.{body_op_of}
use Rattle.numbering.proofs.body_op_of.Goals as goal

pub returns-in-114 : goal.returns-in-114
unfolding body_op_of
returns-in-114 c = ap body_op_of (sym c.in-114.is)

pub returns-in-120 : goal.returns-in-120
unfolding body_op_of
returns-in-120 c = ap body_op_of (sym c.in-120.is)

pub returns-in-239 : goal.returns-in-239
unfolding body_op_of
returns-in-239 c = ap body_op_of (sym c.in-239.is)

pub returns-in-241 : goal.returns-in-241
unfolding body_op_of
returns-in-241 c = ap body_op_of (sym c.in-241.is)

pub returns-in_default : goal.returns-in_default
unfolding body_op_of
returns-in_default c =
    rw (ne_eqb _ 114 c.in_default.in_default-own.rest.0.0.0.1, ne_eqb _ 120 c.in_default.in_default-own.rest.0.0.1, ne_eqb _ 239 c.in_default.in_default-own.rest.0.1, ne_eqb _ 241 c.in_default.in_default-own.rest.1)
