use Rattle.spans.proofs.SpanTurns.{seen_ends}
use mathlib.Core.Path.{sym}
use Rattle.spans.proofs.span_of.Goals as goal

pub returns-in-Some : goal.returns-in-Some
returns-in-Some c = (sym (seen_ends c.requires.1 c.in-Some.ensures), c.requires.1)
