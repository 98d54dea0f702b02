-- `effect_of` meets its contract. Assumes nothing.
use mathlib.Core.Path.{refl}
use Rattle.machine.specs.Operators.{effect_of}
use Rattle.operators.proofs.effect_of.Goals as goal

pub returns-in-OnVectors : goal.returns-in-OnVectors
unfolding effect_of
returns-in-OnVectors c = rw c.in-OnVectors.is c.effect.ensures

pub returns-in-OnFrame : goal.returns-in-OnFrame
unfolding effect_of
returns-in-OnFrame c = rw c.in-OnFrame.is c.effect-in-OnFrame.ensures

pub returns-in-Calls : goal.returns-in-Calls
unfolding effect_of
returns-in-Calls c = rw c.in-Calls.is c.effect-in-Calls.ensures

pub returns-in-OnStack : goal.returns-in-OnStack
unfolding effect_of
returns-in-OnStack c = rw c.in-OnStack.is c.effect-in-OnStack.ensures

pub returns-in-Tests : goal.returns-in-Tests
unfolding effect_of
returns-in-Tests c = rw c.in-Tests.is c.effect-in-Tests.ensures

pub returns-in-Reckons : goal.returns-in-Reckons
unfolding effect_of
returns-in-Reckons c = rw c.in-Reckons.is c.effect-in-Reckons.ensures

pub returns-in-Unknown : goal.returns-in-Unknown
unfolding effect_of
returns-in-Unknown c = rw c.in-Unknown.is (refl, tt)
