-- `numbers::wholes::unlike` meets its contract: sign by sign. Assumes nothing.
use Rattle.numbers.proofs.Signs.{unlike_is}
use Rattle.numbers.proofs.wholes.unlike.Goals as goal

pub returns-then-a : goal.returns-then-a
returns-then-a c = rw (← unlike_is c.args.a c.args.b, c.if-a.true)

pub returns-else-a : goal.returns-else-a
returns-else-a c = rw (← unlike_is c.args.a c.args.b, c.if-a.false)
