-- The arithmetic of an operator on numbers: b was pushed last; an operator on one number takes b. Assumes nothing.
use Rattle.numbers.specs.declared.Number.{Number}
use Rattle.numbers.specs.Fraction.{Answer}
use Rattle.numbers.specs.Arith.{sum_of, difference_of, product_of, quotient_of, negative_of, size_of, floor_of, ceiling_of, trunc_of, round_of, mod_of, rem_of}
use Rattle.machine.specs.declared.ArithOp.{ArithOp}
use Rattle.machine.specs.declared.ArithOp.TheVariants.{Add, Sub, Neg, Abs, Floor, Ceiling, Trunc, Round, Mul, Div, Mod, Rem}

unfoldable pub reckoned : ArithOp → Number → Number → Answer
reckoned Add a b = sum_of a b
reckoned Sub a b = difference_of a b
reckoned Neg a b = negative_of b
reckoned Abs a b = size_of b
reckoned Floor a b = floor_of b
reckoned Ceiling a b = ceiling_of b
reckoned Trunc a b = trunc_of b
reckoned Round a b = round_of b
reckoned Mul a b = product_of a b
reckoned Div a b = quotient_of a b
reckoned Mod a b = mod_of a b
reckoned Rem a b = rem_of a b
