-- `writing::bytes_for_word` meets its contract. Assumes nothing.
use Rattle.lists.proofs.Sizes.{bytes_of_lem}
use Rattle.lists.proofs.writing.bytes_for_word.Goals as goal

pub returns : goal.returns
returns c = (bytes_of_lem c.args.a _ _ c.mag_of.ensures c.bytes_for.ensures.0, c.bytes_for.ensures.1)
