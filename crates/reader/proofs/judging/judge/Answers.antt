-- `judging::judge` meets its contract: type by type. Assumes nothing.
use Rattle.tokens.specs.Inner.{judged_by}
use borrow.Author.Tests.{ne_eqb}
use native.Mathlib.Omega.{arith}
use mathlib.Core.Path.{◌∙◌}
use Rattle.reader.proofs.judging.judge.Goals as goal

pub returns-in-1 : goal.returns-in-1
unfolding judged_by
returns-in-1 c = c.ruled.ensures ∙ rw c.in-1.is

pub returns-in-2 : goal.returns-in-2
unfolding judged_by
returns-in-2 c = c.judge_integer.ensures ∙ rw c.in-2.is

pub returns-in-4 : goal.returns-in-4
unfolding judged_by
returns-in-4 c = c.judge_rational.ensures ∙ rw c.in-4.is

pub returns-in-5 : goal.returns-in-5
unfolding judged_by
returns-in-5 c = c.ruled-in-5.ensures ∙ rw (c.in-5.is, c.is_named.ensures)

pub returns-in_default : goal.returns-in_default
unfolding judged_by
returns-in_default c =
    let a = c.args in
    c.unruled.ensures ∙ rw (ne_eqb a.k 1 (λ e. omega arith), ne_eqb a.k 2 (λ e. omega arith), ne_eqb a.k 4 (λ e. omega arith), ne_eqb a.k 5 (λ e. omega arith))
