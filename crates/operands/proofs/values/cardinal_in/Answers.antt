-- `operands::cardinal_in` meets its contract. Assumes nothing.
use native.Mathlib.Omega.{arith}
use Rattle.operands.proofs.Reading.{part_in, large_in, is_in}
use Rattle.operands.proofs.values.cardinal_in.Goals as goal

pub returns-then-a-ne1 : goal.returns-then-a-ne1
returns-then-a-ne1 c = (part_in c.args.a.num c.args.a.den (λ z. omega (arith, c.if-a-ne1.true)), tt)

pub returns-then-n-gt16777215 : goal.returns-then-n-gt16777215
returns-then-n-gt16777215 c =
    (large_in c.args.a.num c.args.a.den c.to_word-n.result (omega (arith, c.if-a-ne1.false)) c.struct_told-1.given.0.1 c.to_word-n.ensures (omega (arith, c.if-n-gt16777215.true)), tt)

pub returns : goal.returns
returns c =
    (is_in c.args.a.num c.args.a.den c.to_word-n.result (omega (arith, c.if-a-ne1.false)) c.struct_told-1.given.0.1 c.to_word-n.ensures (omega (arith, c.if-n-gt16777215.false)), omega (arith, c.if-n-gt16777215.false))
