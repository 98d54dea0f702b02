-- `writing::half_of` meets its contract. Assumes nothing.
use Rattle.lists.proofs.Sizes.{larger_right, larger_left}
use Rattle.lists.proofs.writing.half_of.Goals as goal

pub returns-then-a-b : goal.returns-then-a-b
returns-then-a-b c =
    (larger_right _ _ _ _ c.bytes_for_word-a.ensures.0 c.bytes_for-b.ensures.0 c.if-a-b.true, c.bytes_for-b.ensures.1)

pub returns-else-a-b : goal.returns-else-a-b
returns-else-a-b c =
    (larger_left _ _ _ _ c.bytes_for_word-a.ensures.0 c.bytes_for-b.ensures.0 c.if-a-b.false, c.bytes_for_word-a.ensures.1)
