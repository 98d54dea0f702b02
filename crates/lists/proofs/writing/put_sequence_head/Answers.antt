-- `writing::put_sequence_head` meets its contract. Assumes nothing.
use Rattle.std.proofs.Common.{◌+◌, [], ◌∷◌}
use Rattle.lists.specs.Written.{bytes_of}
use Rattle.lists.proofs.Storing.{put_then, room_first, room_then, head_short, head_long}
use Rattle.lists.proofs.writing.put_sequence_head.Goals as goal

pub put_pair-requires : goal.put_pair-requires
put_pair-requires c = rw (head_short c.args.kind c.args.len c.if-len-le-SHORT.true) at c.requires.0

pub returns-then-len-le-SHORT : goal.returns-then-len-le-SHORT
returns-then-len-le-SHORT c = rw (head_short c.args.kind c.args.len c.if-len-le-SHORT.true) c.put_pair.ensures

pub put_byte-p-requires : goal.put_byte-p-requires
put_byte-p-requires c =
    room_first _ ((224 + c.args.kind) ∷ []) (bytes_of 3 c.args.len) (head_long c.args.kind c.args.len c.if-len-le-SHORT.false) c.args.out.now c.args.o c.requires.0

pub put_bytes-requires : goal.put_bytes-requires
put_bytes-requires c =
    room_then _ ((224 + c.args.kind) ∷ []) (bytes_of 3 c.args.len) (head_long c.args.kind c.args.len c.if-len-le-SHORT.false) c.args.out.now c.args.o c.requires.0 _ _ c.put_byte-p.ensures c.put_byte-p.auto.out

pub returns : goal.returns
returns c =
    put_then _ ((224 + c.args.kind) ∷ []) (bytes_of 3 c.args.len) (head_long c.args.kind c.args.len c.if-len-le-SHORT.false) _ _ _ _ _ _ c.put_byte-p.ensures c.put_bytes.ensures
