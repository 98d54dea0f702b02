use native.Mathlib.Omega.{arith}
use Prim.Native.Nat.{◌/◌}
use lib.Bits.{or_shifted}
use Rattle.tokens.proofs.bits.long_first.Goals as goal

pub returns : goal.returns
returns c = or_shifted 5 5 (c.args.n / 256) (omega arith)
