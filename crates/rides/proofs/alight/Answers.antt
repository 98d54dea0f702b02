use Rattle.state.specs.Layout.{goes_to}
use mathlib.Core.Path.{ap, ◌∙◌}
use Rattle.sprints.proofs.Rows.{place_fits}
use Rattle.rides.proofs.Riding.{good_there, alights_on, alights}
use Rattle.rides.proofs.alight.Goals as goal

pub word-requires : goal.word-requires
word-requires c = place_fits _ _ _ c.past_comments-at.ensures c.requires.6 c.requires.5

pub returns-then-at-end : goal.returns-then-at-end
returns-then-at-end c =
    alights_on _ _ _ _ _ _ c.requires.0 c.requires.1 c.requires.2 c.requires.4 c.past_comments-at.ensures (c.go_to.ensures ∙ ap (goes_to _ _) c.word.ensures) c.w-1.given c.requires.7 c.if-at-end.true

pub settle-requires : goal.settle-requires
settle-requires c =
    (good_there _ _ _ _ _ 0 c.requires.0 c.requires.1 c.requires.2 c.requires.4 c.past_comments-at.ensures (c.go_to.ensures ∙ ap (goes_to _ _) c.word.ensures) c.w-1.given, c.requires.3)

pub returns : goal.returns
returns c =
    alights _ _ _ _ _ 0 c.requires.0 c.requires.1 c.requires.2 c.requires.4 c.past_comments-at.ensures (c.go_to.ensures ∙ ap (goes_to _ _) c.word.ensures) c.w-1.given c.settle.ensures
