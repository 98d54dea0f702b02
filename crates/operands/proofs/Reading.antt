-- What is read of an operand, and what an operator makes of it. In order: a value by its kind; a Cardinal; the definitions of `machine`
-- on a value that was read; a test of operands. Assumes nothing.
use Rattle.std.specs.Prelude.{Option, Some, None}
use mathlib.Core.Path.{◌≡◌, refl, ◌∙◌}
use mathlib.Core.Bool.{Bool, true, false, cond}
use Prim.Native.Nat.{ℕ, ◌≤◌, ◌<◌}
use native.Mathlib.Omega.{arith}
use borrow.Author.Tests.{eq-eqb, ne_eqb, le-leb, lt-leb}
use lib.IntN.{ℤ, pos, negsuc}
use lib.Signed.{mag}
use mir.Syntax.{w32}
use mir.Val.{to_z, of_z, bool_byte}
use mir.Facts.{to_z-of_z}
use Rattle.numbers.specs.declared.Number as num
use Rattle.machine.specs.declared.Value.{Value}
use Rattle.machine.specs.declared.Value.TheVariants.{Number, Identifier, Vector, Operator}
use Rattle.machine.specs.declared.Effect.{Effect}
use Rattle.machine.specs.declared.Effect.TheVariants.{Gives}
use Rattle.machine.specs.Operand.{cardinal_in, cardinal?, if_some, as_cardinal, as_number, as_vector, as_operator, natural, whether}
use Rattle.operands.specs.Operands.{Within, figure_of}
use Rattle.operands.specs.Sizes.{Small, Sized}

-- ---- a value that is not of a kind

abbrev pub NoNumber : Value → Type 0
NoNumber v = (a : num.Number) → v ≡ Number a → ⊥

abbrev pub NoIdentifier : Value → Type 0
NoIdentifier v = (o s l : ℕ) → v ≡ Identifier o s l → ⊥

abbrev pub NoVector : Value → Type 0
NoVector v = (f l n : ℕ) → v ≡ Vector f l n → ⊥

abbrev pub NoOperator : Value → Type 0
NoOperator v = (o s l f : ℕ) → v ≡ Operator o s l f → ⊥

pub other_figure : (v : Value) → NoNumber v → None ≡ figure_of v
unfolding figure_of
other_figure (Number a) h = absurd (h a refl)
other_figure (Identifier origin start len) h = refl
other_figure (Vector first lower count) h = refl
other_figure (Operator origin start len first) h = refl

pub other_card : (v : Value) → NoNumber v → None ≡ cardinal? v
unfolding cardinal?
other_card (Number a) h = absurd (h a refl)
other_card (Identifier origin start len) h = refl
other_card (Vector first lower count) h = refl
other_card (Operator origin start len first) h = refl

pub no_vector : (v : Value) (f : ℕ → ℕ → ℕ → Option Effect) → NoVector v → None ≡ as_vector v f
unfolding as_vector
no_vector (Number a) f h = refl
no_vector (Identifier origin start len) f h = refl
no_vector (Vector first lower count) f h = absurd (h first lower count refl)
no_vector (Operator origin start len first) f h = refl

pub no_operator : (v : Value) (f : ℕ → ℕ → ℕ → ℕ → Option Effect) → NoOperator v → None ≡ as_operator v f
unfolding as_operator
no_operator (Number a) f h = refl
no_operator (Identifier origin start len) f h = refl
no_operator (Vector first lower count) f h = refl
no_operator (Operator origin start len first) f h = absurd (h origin start len first refl)

-- ---- a Cardinal: a denominator 1, and a numerator whose bits are not above the largest

pub part_in : (z : ℤ) (d : ℕ) → (d ≡ 1 → ⊥) → None ≡ cardinal_in z d
unfolding cardinal_in
part_in (pos k) d n = rw (ne_eqb d 1 n)
part_in (negsuc k) d n = refl

bits_of : (z : ℤ) (n : ℕ) → mag z < 2147483648 → n ≡ of_z w32 (to_z w32 (of_z w32 z)) → n ≡ of_z w32 z
bits_of z n small word = rw (to_z-of_z {w = w32} {z = z} (record { sfits = small })) at word

pub large_in : (z : ℤ) (d n : ℕ) → d ≡ 1 → mag z < 2147483648 → n ≡ of_z w32 (to_z w32 (of_z w32 z)) → 16777215 < n → None ≡ cardinal_in z d
unfolding cardinal_in
large_in (pos k) d n one small word h = rw (eq-eqb d 1 one, lt-leb k 16777215 (omega (arith, bits_of (pos k) n small word)))
large_in (negsuc k) d n one small word h = refl

pub is_in : (z : ℤ) (d n : ℕ) → d ≡ 1 → mag z < 2147483648 → n ≡ of_z w32 (to_z w32 (of_z w32 z)) → n ≤ 16777215 → Some n ≡ cardinal_in z d
unfolding cardinal_in
is_in (pos k) d n one small word h = rw (eq-eqb d 1 one, le-leb k 16777215 (omega (arith, bits_of (pos k) n small word)), bits_of (pos k) n small word)
is_in (negsuc k) d n one small word h = absurd (omega (arith, bits_of (negsuc k) n small word))

-- ---- an operand that was read: k is what was told of it

module _ (x : Value) {k : Option ℕ} (f : ℕ → Option Effect) (told : k ≡ cardinal? x) where
  pub no_card : k ≡ None → None ≡ as_cardinal x f
  unfolding as_cardinal if_some
  no_card e = rw (← told, e)

  pub is_card : {n : ℕ} → k ≡ Some n → f n ≡ as_cardinal x f
  unfolding as_cardinal if_some
  is_card e = rw (← told, e)

pub card_most : {k : Option ℕ} {n : ℕ} → Within k → k ≡ Some n → n ≤ 16777215
card_most w e = rw e at w

abbrev if_figure : Option num.Number → (num.Number → Option Effect) → Option Effect
if_figure None f = None
if_figure (Some a) f = f a

by_figure : (x : Value) (f : num.Number → Option Effect) → as_number x f ≡ if_figure (figure_of x) f
unfolding as_number figure_of
by_figure (Number a) f = refl
by_figure (Identifier origin start len) f = refl
by_figure (Vector first lower count) f = refl
by_figure (Operator origin start len first) f = refl

module _ (x : Value) {k : Option num.Number} (f : num.Number → Option Effect) (told : k ≡ figure_of x) where
  pub no_figure : k ≡ None → None ≡ as_number x f
  no_figure e = rw (by_figure x f, ← told, e)

  pub is_figure : {a : num.Number} → k ≡ Some a → f a ≡ as_number x f
  is_figure e = rw (by_figure x f, ← told, e)

pub is_vector : {x : Value} {a l n : ℕ} (f : ℕ → ℕ → ℕ → Option Effect) → x ≡ Vector a l n → f a l n ≡ as_vector x f
unfolding as_vector
is_vector f e = rw e

pub is_operator : {x : Value} {o s l a : ℕ} (f : ℕ → ℕ → ℕ → ℕ → Option Effect) → x ≡ Operator o s l a → f o s l a ≡ as_operator x f
unfolding as_operator
is_operator f e = rw e

pub small_vector : {x : Value} {a l n : ℕ} → Small x → x ≡ Vector a l n → (a < 2147483648) × (l < 2147483648) × (n < 2147483648)
small_vector h e = rw e at h

-- nothing is given: r is what the function ends with
pub nothing : {r e : Option Effect} → r ≡ None → None ≡ e → (r ≡ e) × Sized r
nothing p q = (p ∙ q, rw p tt)

-- ---- a test of operands

pub whether_lem : (b : Bool) {n : ℕ} {a : num.Number} → n ≡ bool_byte b → a ≡ natural n → Some (Gives a) ≡ whether b
unfolding whether
whether_lem true e h = rw (h, e)
whether_lem false e h = rw (h, e)

pub when_so : {b : Bool} (s t : Option Effect) → b ≡ true → s ≡ cond b s t
when_so s t h = rw h

pub when_not : {b : Bool} (s t : Option Effect) → b ≡ false → t ≡ cond b s t
when_not s t h = rw h
