-- `writing::put_integer` meets its contract. Assumes nothing.
use Rattle.lists.specs.Inner.{head_bytes}
use Rattle.std.proofs.Common.{arith}
use Rattle.lists.proofs.Storing.{put_then, room_first, room_then}
use Rattle.lists.proofs.Sizes.{integer_is}
use Rattle.lists.proofs.writing.put_integer.Goals as goal

pub put_sequence_head-p-requires : goal.put_sequence_head-p-requires
put_sequence_head-p-requires c =
    (room_first _ (head_bytes 2 c.bytes_for_word-k.result) _ (integer_is c.args.a _ c.ranges.a.fits c.bytes_for_word-k.ensures) c.args.out.now c.args.o c.requires, omega arith)

pub put_bytes-requires : goal.put_bytes-requires
put_bytes-requires c =
    room_then _ _ _ (integer_is c.args.a _ c.ranges.a.fits c.bytes_for_word-k.ensures) c.args.out.now c.args.o c.requires _ _ c.put_sequence_head-p.ensures c.put_sequence_head-p.auto.out

pub returns : goal.returns
returns c =
    put_then _ _ _ (integer_is c.args.a _ c.ranges.a.fits c.bytes_for_word-k.ensures) _ _ _ _ _ _ c.put_sequence_head-p.ensures c.put_bytes.ensures
