-- `inline` meets its contract. Assumes nothing.
use Rattle.effects.proofs.Working.{placed_at, inline_as}
use Rattle.origins.proofs.ByOrigin.{place_word}
use Rattle.effects.proofs.inline.Goals as goal

pub word-requires : goal.word-requires
word-requires c =
    place_word _ _ _ c.running-c.result.origin _ _ c.bytes_of-b.ensures c.requires.1 c.size.ensures.1 c.past_comments-at.ensures

pub returns : goal.returns
returns c =
    inline_as _ _ _ _ c.running-c.ensures.0 c.bytes_of-b.ensures _ _ _ (placed_at _ _ _ _ _ c.size.ensures.0 c.past_comments-at.ensures c.word.ensures) c.inline.ensures
