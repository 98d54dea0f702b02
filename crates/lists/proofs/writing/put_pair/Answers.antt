-- `writing::put_pair` meets its contract. Assumes nothing.
use Rattle.std.proofs.Common.{refl}
use Rattle.lists.proofs.Storing.{put_then}
use Rattle.lists.proofs.writing.put_pair.Goals as goal

pub returns : goal.returns
returns c = put_then _ _ _ refl _ _ _ _ _ _ c.put_byte-p.ensures c.put_byte.ensures
