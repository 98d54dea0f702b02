use mathlib.Core.Path.{refl}
use native.Mathlib.Omega.{arith}
use Rattle.rides.proofs.past_held.Goals as goal

pub span_end-requires : goal.span_end-requires
span_end-requires c = (c.requires.0, c.requires.1, (c.requires.2 (c.passes_over.ensures c.if-passes_over.true)).1)

pub overflow_sub-result : goal.overflow_sub-result
overflow_sub-result c = (c.requires.2 (c.passes_over.ensures c.if-passes_over.true)).0

pub returns-then-passes_over : goal.returns-then-passes_over
returns-then-passes_over c =
    (record { fewer = omega arith; stays = λ e. absurd (omega (arith, (c.requires.2 (c.passes_over.ensures c.if-passes_over.true)).0)); passes = λ _. (c.passes_over.ensures c.if-passes_over.true, omega (arith, (c.requires.2 (c.passes_over.ensures c.if-passes_over.true)).0), c.span_end.ensures.0) }, c.span_end.ensures.1)

pub returns : goal.returns
returns c =
    (record { fewer = omega arith; stays = λ _. refl; passes = λ l. absurd (omega arith) }, c.requires.1)
