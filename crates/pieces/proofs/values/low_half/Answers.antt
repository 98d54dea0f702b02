use Prim.Native.Nat.{◌*◌}
use lib.Bits.{and_mask}
use lib.Pow.{pow_pos}
use Rattle.tokens.proofs.Signs.{full}
use Rattle.pieces.proofs.values.low_half.Goals as goal

pub overflow_sub-result : goal.overflow_sub-result
overflow_sub-result c = rw (full c.args.h c.requires) (pow_pos (8 * c.args.h))

pub returns : goal.returns
returns c = rw (full c.args.h c.requires) (and_mask c.args.v (8 * c.args.h))
