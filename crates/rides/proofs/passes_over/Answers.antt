use borrow.Author.Tests.{eqb-true}
use mathlib.Core.Logic.{inl, inr}
use Rattle.rides.proofs.passes_over.Goals as goal

pub returns-then-number-eq110 : goal.returns-then-number-eq110
returns-then-number-eq110 c = λ _. inl c.if-number-eq110.true

pub returns : goal.returns
returns c = λ h. inr (eqb-true _ _ h)
