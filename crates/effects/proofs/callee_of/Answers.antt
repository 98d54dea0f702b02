use mathlib.Core.Path.{refl}
use native.Mathlib.Omega.{arith}
use Rattle.origins.proofs.ByOrigin.{place_word, ends_fit}
use Rattle.effects.proofs.Working.{placed_at, enters_frameless, enters_outside, enters_there}
use Rattle.effects.proofs.callee_of.Goals as goal

pub returns-then-size-used : goal.returns-then-size-used
returns-then-size-used c = enters_frameless _ _ _ _ _ _ _ _ c.size.ensures.0 c.if-size-used.true refl

pub returns-then-end-b : goal.returns-then-end-b
returns-then-end-b c =
    enters_outside _ _ _ _ _ _ _ _ _ _ _ c.size.ensures.0 c.if-size-used.false c.size-2.ensures.0 c.size-3.ensures.0 c.bytes_of-b.ensures c.if-end-b.true refl

pub word-requires : goal.word-requires
word-requires c =
    place_word _ _ _ c.args.origin _ _ c.bytes_of-b.ensures c.requires c.size-4.ensures.1 c.past_comments-at.ensures

pub word-requires-2 : goal.word-requires-2
word-requires-2 c =
    omega (arith, c.if-end-b.false, c.size-2.ensures.1, c.size-3.ensures.1, ends_fit _ _ _ c.args.origin c.bytes_of-b.ensures c.requires)

pub returns : goal.returns
returns c =
    enters_there _ _ _ _ _ _ _ _ _ _ _ c.size.ensures.0 c.if-size-used.false c.size-2.ensures.0 c.size-3.ensures.0 c.bytes_of-b.ensures c.if-end-b.false _ refl (placed_at _ _ _ _ _ c.size-4.ensures.0 c.past_comments-at.ensures c.word.ensures) c.word-2.ensures
