-- How an operator reads the values that it pops, and what it gives: one line for each type that 2.4 asks of an operand. Anything else is
-- a master error (`None`). Assumes nothing.
use Rattle.std.specs.Prelude.{ℕ, Bool, cond, ◌&&◌, leb, eqb, ℤ, pos, negsuc, Ok, Err, Option, Some, None}
use Rattle.numbers.specs.declared.Number as num
use Rattle.numbers.specs.Fraction.{Answer}
use Rattle.machine.specs.declared.Value.{Value}
use Rattle.machine.specs.declared.Value.TheVariants.{Number, Identifier, Vector, Operator}
use Rattle.machine.specs.declared.Effect.{Effect}
use Rattle.machine.specs.declared.Effect.TheVariants.{Gives}
use Rattle.machine.specs.Limits.{most_cardinal}

-- an integer from 0 to 16777215 (R25)
unfoldable pub cardinal_in : ℤ → ℕ → Option ℕ
cardinal_in (pos n) d = cond (eqb d 1 && leb n most_cardinal) (Some n) None
cardinal_in (negsuc n) d = None

unfoldable pub cardinal? : Value → Option ℕ
cardinal? (Number a) = cardinal_in a.num a.den
cardinal? (Identifier origin start len) = None
cardinal? (Vector first lower count) = None
cardinal? (Operator origin start len first) = None

unfoldable pub if_some : Option ℕ → (ℕ → Option Effect) → Option Effect
if_some None f = None
if_some (Some n) f = f n

unfoldable pub as_cardinal : Value → (ℕ → Option Effect) → Option Effect
as_cardinal v f = if_some (cardinal? v) f

unfoldable pub as_number : Value → (num.Number → Option Effect) → Option Effect
as_number (Number a) f = f a
as_number (Identifier origin start len) f = None
as_number (Vector first lower count) f = None
as_number (Operator origin start len first) f = None

unfoldable pub as_vector : Value → (ℕ → ℕ → ℕ → Option Effect) → Option Effect
as_vector (Number a) f = None
as_vector (Identifier origin start len) f = None
as_vector (Vector first lower count) f = f first lower count
as_vector (Operator origin start len first) f = None

unfoldable pub as_operator : Value → (ℕ → ℕ → ℕ → ℕ → Option Effect) → Option Effect
as_operator (Number a) f = None
as_operator (Identifier origin start len) f = None
as_operator (Vector first lower count) f = None
as_operator (Operator origin start len first) f = f origin start len first

-- ---- what is given

unfoldable pub natural : ℕ → num.Number
natural n = record { num = pos n; den = 1 }

unfoldable pub whether : Bool → Option Effect
whether b = Some (Gives (cond b (natural 1) (natural 0)))

unfoldable pub only_if : Bool → Option Effect → Option Effect
only_if b e = cond b e None

-- a number that does not fit the limits, or a division by zero, is a master error
unfoldable pub answered : Answer → Option Effect
answered (Ok a) = Some (Gives a)
answered (Err why) = None
