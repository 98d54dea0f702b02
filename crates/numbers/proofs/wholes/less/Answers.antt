-- `numbers::wholes::less` meets its contract: sign by sign. Assumes nothing.
use native.Mathlib.Omega.{arith}
use borrow.Author.Tests.{lt-ltb, le-ltb}
use Rattle.numbers.proofs.Signs.{signed_less}
use Rattle.numbers.proofs.wholes.less.Goals as goal

pub returns-then-b : goal.returns-then-b
returns-then-b c =
    let a = c.args in rw (← signed_less a.a.below a.b.below a.a.size a.b.size, c.if-a.true, c.if-b.true)

pub returns-then-a-gt0 : goal.returns-then-a-gt0
returns-then-a-gt0 c =
    let a = c.args in rw (← signed_less a.a.below a.b.below a.a.size a.b.size, c.if-a.true, c.if-b.false, lt-ltb 0 a.a.size (omega arith))

pub returns-else-a-gt0 : goal.returns-else-a-gt0
returns-else-a-gt0 c =
    let a = c.args in rw (← signed_less a.a.below a.b.below a.a.size a.b.size, c.if-a.true, c.if-b.false, le-ltb 0 a.a.size (omega arith))

pub returns-then-b-2 : goal.returns-then-b-2
returns-then-b-2 c =
    let a = c.args in rw (← signed_less a.a.below a.b.below a.a.size a.b.size, c.if-a.false, c.if-b-2.true)

pub returns-else-b-2 : goal.returns-else-b-2
returns-else-b-2 c =
    let a = c.args in rw (← signed_less a.a.below a.b.below a.a.size a.b.size, c.if-a.false, c.if-b-2.false)
