-- `roles::role_of` meets its contract: the tests in the definition's order. Assumes nothing.
use mathlib.Core.Path.{◌≡◌, sym, ◌∙◌}
use mathlib.Core.Bool.{true, false}
use borrow.Author.Tests.{eq-eqb, ne_eqb}
use Rattle.machine.specs.Skeleton.{one_of, barred, role_of}
use Rattle.nesting.proofs.roles.role_of.Goals as goal

pub returns-then-n-eq-CLOSE : goal.returns-then-n-eq-CLOSE
unfolding role_of
returns-then-n-eq-CLOSE c = rw (eq-eqb _ _ c.if-n-eq-CLOSE.true)

pub returns-then-one_of : goal.returns-then-one_of
unfolding role_of
returns-then-one_of c = rw (ne_eqb _ _ c.if-n-eq-CLOSE.false, ← c.one_of.ensures, c.if-one_of.true)

pub returns-then-one_of-2 : goal.returns-then-one_of-2
unfolding role_of
returns-then-one_of-2 c =
    let h : one_of barred c.args.n ≡ true = sym c.one_of-2.ensures ∙ c.if-one_of-2.true in
    rw (ne_eqb _ _ c.if-n-eq-CLOSE.false, ← c.one_of.ensures, c.if-one_of.false, h)

pub returns : goal.returns
unfolding role_of
returns c =
    let h : one_of barred c.args.n ≡ false = sym c.one_of-2.ensures ∙ c.if-one_of-2.false in
    rw (ne_eqb _ _ c.if-n-eq-CLOSE.false, ← c.one_of.ensures, c.if-one_of.false, h)
