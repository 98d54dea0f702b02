use lib.Dec.{lit≤}
use native.Mathlib.Omega.{arith}
use Rattle.tokens.proofs.Fields.{mask_byte, joined}
use Rattle.tokens.proofs.bits.short15.Goals as goal

pub overflow_cast-result : goal.overflow_cast-result
overflow_cast-result c = omega (arith, mask_byte 7 c.args.a (lit≤ tt))

pub returns : goal.returns
returns c = joined 7 c.args.a c.args.b (lit≤ tt) (omega arith)
