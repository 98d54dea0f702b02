-- `operate` meets its contract. Assumes nothing.
use mathlib.Core.Path.{refl}
use Rattle.sprints.proofs.Level.{flat_undone}
use Rattle.sprints.proofs.Swiftly.{operated, is_nop, is_frame, is_pop, is_mark_lem, is_dup, is_exch, is_count, is_reckon, is_test, is_get, is_shape}
use Rattle.sprints.proofs.operate.Goals as goal

pub returns-in-1 : goal.returns-in-1
returns-in-1 c = λ code. operated _ c.requires.2 (is_nop code _ c.requires.0 c.in-1.is)

pub returns-in-180 : goal.returns-in-180
returns-in-180 c = λ code. operated _ c.requires.2 (is_pop code _ _ c.in-180.is (c.pop.ensures _))

pub returns-in-186 : goal.returns-in-186
returns-in-186 c = λ code. is_mark_lem code _ _ c.in-186.is (c.mark.ensures code)

pub returns-in-181 : goal.returns-in-181
returns-in-181 c = λ code. operated _ c.requires.2 (is_dup code _ _ _ c.height_of.ensures c.in-181.is c.repeat.ensures)

pub returns-in-185 : goal.returns-in-185
returns-in-185 c =
    λ code. operated _ c.requires.2 (is_exch code _ _ _ c.height_of-in-185.ensures c.in-185.is c.exchange.ensures)

pub returns-in-188 : goal.returns-in-188
returns-in-188 c =
    λ code. operated _ c.requires.2 (is_count code _ _ _ c.height_of-in-188.ensures c.in-188.is c.tally.ensures)

pub returns-in-201 : goal.returns-in-201
returns-in-201 c = λ code. operated _ c.requires.2 (is_reckon code _ _ c.in-201.is c.reckon.ensures)

pub returns-in-17 : goal.returns-in-17
returns-in-17 c =
    λ code. operated _ c.requires.2 (is_get code _ _ c.requires.1 c.in-17.is c.look.ensures)

pub returns-in-285 : goal.returns-in-285
returns-in-285 c =
    λ code. operated _ c.requires.2 (is_shape code _ _ c.requires.1 c.in-285.is c.look-in-285.ensures)

pub returns-in-20 : goal.returns-in-20
returns-in-20 c = λ code. operated _ c.requires.2 (is_frame code _ _ _ c.frame_op.ensures c.framed.ensures)

pub returns-in_default : goal.returns-in_default
returns-in_default c = λ code. (flat_undone _ refl, λ h. absurd (h refl))

pub returns-in_default-2 : goal.returns-in_default-2
returns-in_default-2 c = λ code. (flat_undone _ refl, λ h. absurd (h refl))

pub returns-in_default-3 : goal.returns-in_default-3
returns-in_default-3 c = λ code. (flat_undone _ refl, λ h. absurd (h refl))

pub returns-in-202 : goal.returns-in-202
returns-in-202 c = λ code. operated _ c.requires.2 (is_test code _ _ _ c.two_values.ensures.0 c.test.ensures)
