-- `tally` meets its contract. Assumes nothing.
use mathlib.Core.Path.{refl}
use Rattle.marks.proofs.Marking.{tally_bare, tally_value, tally_other, tally_push}
use Rattle.marks.proofs.tally.Goals as goal

pub returns-then-i-eq0 : goal.returns-then-i-eq0
returns-then-i-eq0 c = tally_bare _ c.requires.0 c.base-i.ensures.0 c.base-i.ensures.1 c.if-i-eq0.true refl

pub returns-then-v-ne5 : goal.returns-then-v-ne5
returns-then-v-ne5 c =
    tally_value _ c.requires.0 c.base-i.ensures.0 c.base-i.ensures.1 _ c.get-v.ensures c.if-i-eq0.false c.if-v-ne5.true refl

pub returns-then-v-c : goal.returns-then-v-c
returns-then-v-c c =
    tally_other _ c.requires.0 c.base-i.ensures.0 c.base-i.ensures.1 _ c.get-v.ensures c.if-i-eq0.false c.if-v-ne5.false _ c.get-c.ensures c.if-v-c.true refl

pub returns : goal.returns
returns c =
    tally_push _ c.requires.0 c.base-i.ensures.0 c.base-i.ensures.1 _ c.get-v.ensures c.if-i-eq0.false c.if-v-ne5.false _ c.get-c.ensures _ c.if-v-c.false c.word-n.ensures c.push_slot.ensures
