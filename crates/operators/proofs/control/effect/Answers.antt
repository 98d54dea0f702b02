-- `control::effect` meets its contract. Assumes nothing.
use mathlib.Core.Path.{refl}
use Rattle.machine.specs.Ops.Control.{body_effect}
use Rattle.operators.proofs.control.effect.Goals as goal

pub returns-in-MakeSimpleCo : goal.returns-in-MakeSimpleCo
unfolding body_effect
returns-in-MakeSimpleCo c = rw c.in-MakeSimpleCo.is (refl, tt)

pub returns-in-DoSaveSimpleBody : goal.returns-in-DoSaveSimpleBody
unfolding body_effect
returns-in-DoSaveSimpleBody c = rw c.in-DoSaveSimpleBody.is (refl, c.requires)

pub returns-in-If : goal.returns-in-If
unfolding body_effect
returns-in-If c = rw c.in-If.is c.if_so.ensures

pub returns-in-IfElse : goal.returns-in-IfElse
unfolding body_effect
returns-in-IfElse c = rw c.in-IfElse.is c.if_else.ensures

pub returns-in-PassOver : goal.returns-in-PassOver
unfolding body_effect
returns-in-PassOver c = rw c.in-PassOver.is (refl, tt)
