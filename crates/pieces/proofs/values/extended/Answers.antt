use native.Mathlib.Omega.{arith}
use Rattle.tokens.proofs.Signs.{full, full_le, arm_fits, arm_low, arm_high}
use Rattle.pieces.proofs.values.extended.Goals as goal

pub overflow_add-v : goal.overflow_add-v
overflow_add-v c = omega (arith, full_le c.args.len (omega arith))

pub overflow_cast-result-else-v-full : goal.overflow_cast-result-else-v-full
overflow_cast-result-else-v-full c = record { sfits = omega (arith, full_le c.args.len (omega arith)) }

pub overflow_cast-result-else-v-full-2 : goal.overflow_cast-result-else-v-full-2
overflow_cast-result-else-v-full-2 c = record { sfits = omega (arith, full c.args.len (omega arith), full_le c.args.len (omega arith)) }

pub overflow_sub-result : goal.overflow_sub-result
overflow_sub-result c = arm_fits c.args.len c.args.v (omega arith) (omega arith)

pub returns-then-v-full : goal.returns-then-v-full
returns-then-v-full c =
    arm_low c.args.len c.args.v (omega arith) (omega arith) (omega (arith, full c.args.len (omega arith)))

pub returns-else-v-full : goal.returns-else-v-full
returns-else-v-full c =
    arm_high c.args.len c.args.v (omega arith) (omega arith) (omega (arith, full c.args.len (omega arith)))
