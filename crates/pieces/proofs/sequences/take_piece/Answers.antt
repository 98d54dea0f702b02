use Rattle.tokens.proofs.Summaries.{made}
use mathlib.Core.Path.{refl}
use Rattle.pieces.proofs.sequences.take_piece.Goals as goal

pub returns : goal.returns
returns c =
    let a = c.args in
    let v = c.value_more-value.ensures in
    (made a.k a.g a.part.now _ _ _ _ refl c.first_of-first.ensures (rw c.room_of.ensures.0 at v.0) (rw c.rule_of.ensures at c.good_more-good.ensures), v.1)
