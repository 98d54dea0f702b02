use Rattle.spans.proofs.SpanTurns.{none_noted}
use mathlib.Core.Path.{sym, ◌∙◌}
use Rattle.literals.proofs.reading.past_operator.Goals as goal

pub pass-requires : goal.pass-requires
pass-requires c = (c.requires.0, none_noted _, c.requires.1 (sym c.role_of.ensures ∙ c.in-Holds.is))

pub returns-in-Holds : goal.returns-in-Holds
returns-in-Holds c =
    record { holds = λ _. (_, c.pass.ensures.0, c.past_comments.ensures); holds_none = λ f. absurd (f (sym c.role_of.ensures ∙ c.in-Holds.is)) }

pub returns-in_default : goal.returns-in_default
returns-in_default c =
    record { holds = λ h. absurd (c.in_default.not-Holds (c.role_of.ensures ∙ h)); holds_none = λ _. c.past_comments-in_default.ensures }
