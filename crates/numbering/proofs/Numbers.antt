-- A number that stands nowhere in the table of operators: what a `match` on its numbers, in the table's order, tells where none is met.
-- Assumes nothing.
use mathlib.Core.Path.{◌≡◌, refl}
use mathlib.Core.List.{List, [], ◌∷◌}
use Prim.Native.Nat.{ℕ}
use borrow.Author.Tests.{ne_eqb}
use Rattle.machine.specs.declared.Op.TheVariants.{Unknown}
use Rattle.machine.specs.Operators.{Numbered, operators, op_in, op_of}

abbrev Missed : Type 0 → List Numbered → ℕ → Type 0
Missed A [] n = A
Missed A (o ∷ os) n = Missed (A × (n ≡ o.number → ⊥)) os n

missed : (A : Type 0) (os : List Numbered) (n : ℕ) → Missed A os n → A × (Unknown ≡ op_in os n)
unfolding op_in
missed A [] n h = (h, refl)
missed A (o ∷ os) n h =
    let r = missed (A × (n ≡ o.number → ⊥)) os n h in
    (r.0.0, rw (ne_eqb n o.number r.0.1) r.1)

abbrev pub InNone : ℕ → Type 0
unfolding operators
InNone n = Missed Unit operators n

pub none_met : (n : ℕ) → InNone n → Unknown ≡ op_of n
unfolding op_of operators
none_met n h = (missed Unit operators n h).1
