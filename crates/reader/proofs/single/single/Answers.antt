-- `single::single` meets its contract: type by type. Assumes nothing.
use Rattle.tokens.specs.Token.{judged}
use borrow.Author.Tests.{ne_eqb}
use native.Mathlib.Omega.{arith}
use mathlib.Core.Path.{◌∙◌}
use Rattle.reader.proofs.single.single.Goals as goal

pub returns-in-1 : goal.returns-in-1
unfolding judged
returns-in-1 c = c.ruled.ensures ∙ rw (c.in-1.is, c.all_obey.ensures)

pub returns-in-2 : goal.returns-in-2
unfolding judged
returns-in-2 c = c.integer_at.ensures ∙ rw c.in-2.is

pub returns-in-4 : goal.returns-in-4
unfolding judged
returns-in-4 c = c.rational_at.ensures ∙ rw c.in-4.is

pub returns-in-5 : goal.returns-in-5
unfolding judged
returns-in-5 c = c.ruled-in-5.ensures ∙ rw (c.in-5.is, c.is_name.ensures)

pub returns-in_default : goal.returns-in_default
unfolding judged
returns-in_default c =
    let a = c.args in
    c.unruled.ensures ∙ rw (ne_eqb a.k 1 (λ e. omega arith), ne_eqb a.k 2 (λ e. omega arith), ne_eqb a.k 4 (λ e. omega arith), ne_eqb a.k 5 (λ e. omega arith))
