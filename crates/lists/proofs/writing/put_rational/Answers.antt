-- `writing::put_rational` meets its contract. Assumes nothing.
use Rattle.std.proofs.Common.{◌+◌, arith}
use Rattle.lists.specs.Inner.{head_bytes}
use Rattle.lists.proofs.Storing.{put_then, room_first, room_then}
use Rattle.lists.proofs.Sizes.{rational_is}
use Rattle.lists.proofs.writing.put_rational.Goals as goal

pub put_sequence_head-p-requires : goal.put_sequence_head-p-requires
put_sequence_head-p-requires c =
    (room_first _ (head_bytes 4 (c.half_of-k.result + c.half_of-k.result)) _ (rational_is c.args.num c.args.den _ c.ranges.num.fits c.half_of-k.ensures) c.args.out.now c.args.o c.requires, omega arith)

pub put_halves-requires : goal.put_halves-requires
put_halves-requires c =
    room_then _ _ _ (rational_is c.args.num c.args.den _ c.ranges.num.fits c.half_of-k.ensures) c.args.out.now c.args.o c.requires _ _ c.put_sequence_head-p.ensures c.put_sequence_head-p.auto.out

pub returns : goal.returns
returns c =
    put_then _ _ _ (rational_is c.args.num c.args.den _ c.ranges.num.fits c.half_of-k.ensures) _ _ _ _ _ _ c.put_sequence_head-p.ensures c.put_halves.ensures
