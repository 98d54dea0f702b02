-- 2.4.8. Assumes nothing.
use Rattle.std.specs.Prelude.{ℕ, Bool, true, false, not, ◌&&◌, ◌||◌, eqb, Option, Some}
use Rattle.numbers.specs.declared.Number as num
use Rattle.std.specs.declared.cmp.Ordering.{Ordering}
use Rattle.std.specs.declared.cmp.Ordering.TheVariants.{Less, Equal, Greater}
use Rattle.numbers.specs.Arith.{order_of}
use Rattle.machine.specs.declared.Value.{Value}
use Rattle.machine.specs.declared.Value.TheVariants.{Number, Identifier, Vector, Operator}
use Rattle.machine.specs.declared.TestOp.{TestOp}
use Rattle.machine.specs.declared.TestOp.TheVariants.{Eq, Gt, Ge, And, Or, Not, TypeOf}
use Rattle.machine.specs.declared.Work.TheVariants.{Match}
use Rattle.machine.specs.declared.Next.TheVariants.{Works}
use Rattle.machine.specs.declared.Effect.{Effect}
use Rattle.machine.specs.declared.Effect.TheVariants.{Gives, Acts}
use Rattle.machine.specs.Operand.{as_cardinal, as_number, natural, whether}

unfoldable pub test_arity : TestOp → ℕ
test_arity Eq = 2
test_arity Gt = 2
test_arity Ge = 2
test_arity And = 2
test_arity Or = 2
test_arity Not = 1
test_arity TypeOf = 1

unfoldable pub is_less : Ordering → Bool
is_less Less = true
is_less Equal = false
is_less Greater = false

unfoldable pub is_equal : Ordering → Bool
is_equal Less = false
is_equal Equal = true
is_equal Greater = false

-- appendix B.1 (R32)
unfoldable pub type_of : Value → ℕ
type_of (Number a) = 1
type_of (Identifier origin start len) = 2
type_of (Vector first lower count) = 3
type_of (Operator origin start len first) = 4

-- two identifiers are compared by their text, which is the engine's work; two numbers here; other values are never equal (R29)
unfoldable pub equals : Value → Value → Option Effect
equals (Number a) (Number b) = whether (is_equal (order_of a b))
equals (Number a) (Identifier origin start len) = whether false
equals (Number a) (Vector first lower count) = whether false
equals (Number a) (Operator origin start len first) = whether false
equals (Identifier o s l) (Number b) = whether false
equals (Identifier o s l) (Identifier origin start len) = Some (Acts (Works (Match (Identifier o s l) (Identifier origin start len))))
equals (Identifier o s l) (Vector first lower count) = whether false
equals (Identifier o s l) (Operator origin start len first) = whether false
equals (Vector f l c) y = whether false
equals (Operator o s l f) y = whether false

-- y against x, both numbers
unfoldable pub compared : Value → Value → (num.Number → num.Number → Bool) → Option Effect
compared x y f = as_number y (λ a. as_number x (λ b. whether (f a b)))

-- y with x, both Cardinals, each as whether it is not 0
unfoldable pub joined : Value → Value → (Bool → Bool → Bool) → Option Effect
joined x y f = as_cardinal y (λ a. as_cardinal x (λ b. whether (f (not (eqb a 0)) (not (eqb b 0)))))

unfoldable pub test_effect : TestOp → Value → Value → Option Effect
test_effect Eq x y = equals x y
test_effect Gt x y = compared x y (λ a b. is_less (order_of b a))
test_effect Ge x y = compared x y (λ a b. not (is_less (order_of a b)))
test_effect And x y = joined x y (λ a b. a && b)
test_effect Or x y = joined x y (λ a b. a || b)
test_effect Not x y = as_cardinal x (λ b. whether (eqb b 0))
test_effect TypeOf x y = Some (Gives (natural (type_of x)))
