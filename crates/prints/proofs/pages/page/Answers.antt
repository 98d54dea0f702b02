use Rattle.prints.proofs.Ending.{page_ends, page_legible}
use Rattle.literals.proofs.Passing.{solid_inside}
use mathlib.Core.Path.{◌∙◌}
use native.Mathlib.Omega.{arith}
use Rattle.prints.proofs.pages.page.Goals as goal

pub word-requires : goal.word-requires
word-requires c =
    omega (arith, c.past_comments-at.ensures, solid_inside c.args.body.now 0 (omega arith), c.requires.1.body_fits)

pub run-requires : goal.run-requires
run-requires c =
    (c.open-r.ensures.good, omega (arith, c.open-r.ensures.counted, c.requires.2), c.requires.1, page_legible c.args.w.now _ _ _ _ _ _ _ _ _ c.requires.0 c.take_frame.ensures (c.word.ensures ∙ c.past_comments-at.ensures) c.word-2.ensures c.open-r.ensures c.requires.3 c.requires.4)

pub returns : goal.returns
returns c =
    page_ends c.args.w.now _ _ _ _ _ _ _ _ _ _ _ c.requires.0.room c.requires.0.few c.take_frame.ensures (c.word.ensures ∙ c.past_comments-at.ensures) c.word-2.ensures c.open-r.ensures c.run.ensures
