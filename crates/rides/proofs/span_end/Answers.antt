use Rattle.rides.proofs.Riding.{no_body}
use Rattle.rides.proofs.span_end.Goals as goal

pub span_of-requires : goal.span_of-requires
span_of-requires c = (c.requires.0.pre_fits, c.requires.1.in_pre, rw c.if-origin-eq0.true at c.requires.2)

pub returns-then-origin-eq0 : goal.returns-then-origin-eq0
returns-then-origin-eq0 c =
    (rw c.if-origin-eq0.true c.span_of.ensures.0, record { in_pre = c.span_of.ensures.1; in_body = c.requires.1.in_body })

pub span_of-requires-then-origin-eq1 : goal.span_of-requires-then-origin-eq1
span_of-requires-then-origin-eq1 c = (c.requires.0.body_fits, c.requires.1.in_body, rw c.if-origin-eq1.true at c.requires.2)

pub returns-then-origin-eq1 : goal.returns-then-origin-eq1
returns-then-origin-eq1 c =
    (rw c.if-origin-eq1.true c.span_of-then-origin-eq1.ensures.0, record { in_pre = c.requires.1.in_pre; in_body = c.span_of-then-origin-eq1.ensures.1 })

pub returns : goal.returns
returns c = absurd (no_body _ _ _ _ c.if-origin-eq0.false c.if-origin-eq1.false c.requires.2)
