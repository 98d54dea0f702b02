use mathlib.Core.Path.{◌∙◌}
use native.Mathlib.Omega.{arith}
use Rattle.sprints.proofs.Rows.{place_fits}
use Rattle.rides.proofs.Holding.{inline_made}
use Rattle.rides.proofs.enter_if.Goals as goal

pub word-requires : goal.word-requires
word-requires c = place_fits _ _ _ c.past_comments-at.ensures (omega (arith, c.requires.2, c.requires.3)) c.requires.1

pub returns : goal.returns
returns c =
    (c.inline.ensures.busy, λ code eb. inline_made code _ _ _ _ _ eb (c.word.ensures ∙ c.past_comments-at.ensures) c.word-2.ensures c.requires.2 c.inline.ensures)
