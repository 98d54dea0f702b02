-- `arity_of` meets its contract. Assumes nothing.
use mathlib.Core.Path.{sym, ap, ◌∙◌}
use Rattle.machine.specs.Operators.{arity_of}
use native.Mathlib.Omega.{arith}
use Rattle.operators.proofs.arity_of.Goals as goal

pub returns-in-OnVectors : goal.returns-in-OnVectors
unfolding arity_of
returns-in-OnVectors c = (c.arity.ensures.0 ∙ ap arity_of (sym c.in-OnVectors.is), c.arity.ensures.1)

pub returns-in-OnFrame : goal.returns-in-OnFrame
unfolding arity_of
returns-in-OnFrame c = (c.arity-in-OnFrame.ensures.0 ∙ ap arity_of (sym c.in-OnFrame.is), c.arity-in-OnFrame.ensures.1)

pub returns-in-Calls : goal.returns-in-Calls
unfolding arity_of
returns-in-Calls c = (ap arity_of (sym c.in-Calls.is), omega arith)

pub returns-in-OnStack : goal.returns-in-OnStack
unfolding arity_of
returns-in-OnStack c = (c.arity-in-OnStack.ensures.0 ∙ ap arity_of (sym c.in-OnStack.is), c.arity-in-OnStack.ensures.1)

pub returns-in-Tests : goal.returns-in-Tests
unfolding arity_of
returns-in-Tests c = (c.arity-in-Tests.ensures.0 ∙ ap arity_of (sym c.in-Tests.is), c.arity-in-Tests.ensures.1)

pub returns-in-Reckons : goal.returns-in-Reckons
unfolding arity_of
returns-in-Reckons c = (c.arity-in-Reckons.ensures.0 ∙ ap arity_of (sym c.in-Reckons.is), c.arity-in-Reckons.ensures.1)

pub returns-in-Unknown : goal.returns-in-Unknown
unfolding arity_of
returns-in-Unknown c = (ap arity_of (sym c.in-Unknown.is), omega arith)
