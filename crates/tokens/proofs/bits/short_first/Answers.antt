use native.Mathlib.Omega.{arith}
use lib.Bits.{or_shifted}
use Rattle.tokens.proofs.bits.short_first.Goals as goal

pub returns : goal.returns
returns c = or_shifted 4 5 c.args.n (omega arith)
