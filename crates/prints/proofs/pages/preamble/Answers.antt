use Rattle.prints.proofs.Ending.{preamble_ends, preamble_legible}
use Rattle.literals.proofs.Passing.{solid_inside}
use mathlib.Core.Path.{◌∙◌}
use native.Mathlib.Omega.{arith}
use Rattle.prints.proofs.pages.preamble.Goals as goal

pub word-requires : goal.word-requires
word-requires c =
    omega (arith, c.past_comments-at.ensures, solid_inside c.args.pre.now 0 (omega arith), c.requires.1.pre_fits)

pub run-q-requires : goal.run-q-requires
run-q-requires c =
    (c.open-r.ensures.good, omega (arith, c.open-r.ensures.counted, c.requires.3), c.requires.1, preamble_legible c.args.w.now _ _ _ _ _ _ _ c.requires.0 c.zero_frame.ensures (c.word.ensures ∙ c.past_comments-at.ensures) c.word-2.ensures c.open-r.ensures c.requires.4)

pub returns : goal.returns
returns c =
    preamble_ends c.args.w.now _ _ _ _ _ c.args.none.now _ _ _ _ _ c.requires.0 c.requires.2 c.zero_frame.ensures (c.word.ensures ∙ c.past_comments-at.ensures) c.word-2.ensures c.open-r.ensures c.run-q.ensures c.keep_frame.ensures
