-- Tests on what an operator read: ERROR's codes, AND and OR, EQ. Assumes nothing.
use Rattle.std.specs.Prelude.{Some}
use mathlib.Core.Path.{◌≡◌, refl}
use mathlib.Core.Bool.{true, false, not, ◌&&◌, ◌||◌}
use mathlib.Core.List.{[], ◌∷◌}
use mathlib.Core.Logic.{inl, inr}
use Prim.Native.Nat.{ℕ}
use borrow.Author.Tests.{eq-eqb, ne_eqb}
use lib.Dec.{eqb}
use types.Run.{OneOf}
use Rattle.numbers.specs.declared.Number as num
use Rattle.numbers.specs.Arith.{order_of}
use Rattle.machine.specs.declared.Value.{Value}
use Rattle.machine.specs.declared.Value.TheVariants.{Number, Identifier, Vector, Operator}
use Rattle.machine.specs.declared.Work.TheVariants.{Match}
use Rattle.machine.specs.declared.Next.TheVariants.{Works}
use Rattle.machine.specs.declared.Effect.TheVariants.{Acts}
use Rattle.machine.specs.Operand.{whether}
use Rattle.machine.specs.Ops.Stack.{mild_code}
use Rattle.machine.specs.Ops.Test.{is_equal, equals}
use Rattle.operands.proofs.Reading.{NoNumber, NoIdentifier}

-- ---- the codes of ERROR

pub mild_code_lem : (n : ℕ) → OneOf (10 ∷ 50 ∷ 60 ∷ 100 ∷ []) n → true ≡ mild_code n
unfolding mild_code
mild_code_lem n (inl e) = rw e
mild_code_lem n (inr (inl e)) = rw e
mild_code_lem n (inr (inr (inl e))) = rw e
mild_code_lem n (inr (inr (inr e))) = rw e

pub harsh_code : (n : ℕ) → (OneOf (10 ∷ 50 ∷ 60 ∷ 100 ∷ []) n → ⊥) → false ≡ mild_code n
unfolding mild_code
harsh_code n h = rw (ne_eqb n 10 (λ e. h (inl e)), ne_eqb n 50 (λ e. h (inr (inl e))), ne_eqb n 60 (λ e. h (inr (inr (inl e)))), ne_eqb n 100 (λ e. h (inr (inr (inr e)))))

-- ---- AND, OR

module _ (a b : ℕ) where
  pub and_off : a ≡ 0 → whether (not (eqb a 0)) ≡ whether (not (eqb a 0) && not (eqb b 0))
  and_off e = rw (eq-eqb a 0 e)

  pub and_on : (a ≡ 0 → ⊥) → whether (not (eqb b 0)) ≡ whether (not (eqb a 0) && not (eqb b 0))
  and_on n = rw (ne_eqb a 0 n)

  pub or_off : a ≡ 0 → whether (not (eqb b 0)) ≡ whether (not (eqb a 0) || not (eqb b 0))
  or_off e = rw (eq-eqb a 0 e)

  pub or_on : (a ≡ 0 → ⊥) → whether (not (eqb a 0)) ≡ whether (not (eqb a 0) || not (eqb b 0))
  or_on n = rw (ne_eqb a 0 n)

-- ---- EQ

pub eq_numbers : {x y : Value} (a b : num.Number) → x ≡ Number a → y ≡ Number b → whether (is_equal (order_of a b)) ≡ equals x y
unfolding equals
eq_numbers a b e h = rw (e, h)

pub eq_number : {x : Value} (a : num.Number) (y : Value) → x ≡ Number a → NoNumber y → whether false ≡ equals x y
unfolding equals
eq_number a (Number b) e h = absurd (h b refl)
eq_number a (Identifier origin start len) e h = rw e
eq_number a (Vector first lower count) e h = rw e
eq_number a (Operator origin start len first) e h = rw e

pub eq_identifiers : {x y : Value} (o s l p t m : ℕ) → x ≡ Identifier o s l → y ≡ Identifier p t m → Some (Acts (Works (Match x y))) ≡ equals x y
unfolding equals
eq_identifiers o s l p t m e h = rw (e, h)

pub eq_identifier : {x : Value} (o s l : ℕ) (y : Value) → x ≡ Identifier o s l → NoIdentifier y → whether false ≡ equals x y
unfolding equals
eq_identifier o s l (Number b) e h = rw e
eq_identifier o s l (Identifier origin start len) e h = absurd (h origin start len refl)
eq_identifier o s l (Vector first lower count) e h = rw e
eq_identifier o s l (Operator origin start len first) e h = rw e

pub eq_never : (x y : Value) → NoNumber x → NoIdentifier x → whether false ≡ equals x y
unfolding equals
eq_never (Number a) y g h = absurd (g a refl)
eq_never (Identifier o s l) y g h = absurd (h o s l refl)
eq_never (Vector f l c) y g h = refl
eq_never (Operator o s l f) y g h = refl
