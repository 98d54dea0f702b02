-- `writing::put_halves` meets its contract. Assumes nothing.
use Rattle.lists.specs.Written.{bytes_of}
use Rattle.std.proofs.Common.{refl}
use Rattle.lists.proofs.Storing.{put_then, room_first, room_then}
use Rattle.lists.proofs.writing.put_halves.Goals as goal

pub put_bytes-p-requires : goal.put_bytes-p-requires
put_bytes-p-requires c =
    let a = c.args in room_first _ (bytes_of a.k a.num) (bytes_of a.k a.den) refl a.out.now a.o c.requires

pub put_bytes-requires : goal.put_bytes-requires
put_bytes-requires c =
    let a = c.args in room_then _ (bytes_of a.k a.num) (bytes_of a.k a.den) refl a.out.now a.o c.requires _ _ c.put_bytes-p.ensures c.put_bytes-p.auto.out

pub returns : goal.returns
returns c = put_then _ _ _ refl _ _ _ _ _ _ c.put_bytes-p.ensures c.put_bytes.ensures
