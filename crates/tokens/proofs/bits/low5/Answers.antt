use lib.Bits.{and_mask}
use Rattle.tokens.proofs.bits.low5.Goals as goal

pub returns : goal.returns
returns c = and_mask c.args.b 5
