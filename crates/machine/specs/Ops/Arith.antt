-- 2.4.9, by the definitions of `numbers`. Assumes nothing.
use Rattle.std.specs.Prelude.{ℕ, Option}
use Rattle.numbers.specs.declared.Number as num
use Rattle.numbers.specs.Fraction.{Answer}
use Rattle.numbers.specs.Arith.{sum_of, difference_of, product_of, quotient_of, negative_of, size_of, floor_of, ceiling_of, trunc_of, round_of, mod_of, rem_of}
use Rattle.machine.specs.declared.Value.{Value}
use Rattle.machine.specs.declared.ArithOp.{ArithOp}
use Rattle.machine.specs.declared.ArithOp.TheVariants.{Add, Sub, Neg, Abs, Floor, Ceiling, Trunc, Round, Mul, Div, Mod, Rem}
use Rattle.machine.specs.declared.Effect.{Effect}
use Rattle.machine.specs.Operand.{as_number, answered}

unfoldable pub arith_arity : ArithOp → ℕ
arith_arity Add = 2
arith_arity Sub = 2
arith_arity Neg = 1
arith_arity Abs = 1
arith_arity Floor = 1
arith_arity Ceiling = 1
arith_arity Trunc = 1
arith_arity Round = 1
arith_arity Mul = 2
arith_arity Div = 2
arith_arity Mod = 2
arith_arity Rem = 2

unfoldable pub of_one : (num.Number → Answer) → Value → Option Effect
of_one f x = as_number x (λ a. answered (f a))

-- y and x, in the order in which they were pushed
unfoldable pub of_two : (num.Number → num.Number → Answer) → Value → Value → Option Effect
of_two f x y = as_number y (λ a. as_number x (λ b. answered (f a b)))

unfoldable pub arith_effect : ArithOp → Value → Value → Option Effect
arith_effect Add x y = of_two sum_of x y
arith_effect Sub x y = of_two difference_of x y
arith_effect Neg x y = of_one negative_of x
arith_effect Abs x y = of_one size_of x
arith_effect Floor x y = of_one floor_of x
arith_effect Ceiling x y = of_one ceiling_of x
arith_effect Trunc x y = of_one trunc_of x
arith_effect Round x y = of_one round_of x
arith_effect Mul x y = of_two product_of x y
arith_effect Div x y = of_two quotient_of x y
arith_effect Mod x y = of_two mod_of x y
arith_effect Rem x y = of_two rem_of x y
