use Rattle.tokens.specs.Text.{obeys}
use Rattle.pieces.proofs.text.obeys_rule.Goals as goal

pub returns-in-Anything : goal.returns-in-Anything
unfolding obeys
returns-in-Anything c = rw c.in-Anything.is

pub returns-in-Plain : goal.returns-in-Plain
unfolding obeys
returns-in-Plain c = rw c.in-Plain.is

pub returns-then-is_letter : goal.returns-then-is_letter
unfolding obeys
returns-then-is_letter c = rw (c.in-Named.is, ← c.is_letter.ensures, c.if-is_letter.true)

pub returns-else-is_letter : goal.returns-else-is_letter
unfolding obeys
returns-else-is_letter c = rw (c.in-Named.is, ← c.is_letter.ensures, c.if-is_letter.false, c.is_mark.ensures)

pub returns-then-is_ascii_lowercase : goal.returns-then-is_ascii_lowercase
unfolding obeys
returns-then-is_ascii_lowercase c = rw (c.in-Lowered.is, ← c.is_ascii_lowercase.ensures.value, c.if-is_ascii_lowercase.true)

pub returns-else-is_ascii_lowercase : goal.returns-else-is_ascii_lowercase
unfolding obeys
returns-else-is_ascii_lowercase c =
    rw (c.in-Lowered.is, ← c.is_ascii_lowercase.ensures.value, c.if-is_ascii_lowercase.false, c.is_mark-else-is_ascii_lowercase.ensures)
