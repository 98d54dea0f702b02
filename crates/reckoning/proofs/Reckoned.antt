-- The arithmetic operators by their arity: of one number, or of two. Assumes nothing.
use Rattle.std.specs.Prelude.{Option, Some, None}
use mathlib.Core.Path.{◌≡◌, refl, ◌∙◌}
use mathlib.Core.Bool.{Bool, true, false, cond}
use borrow.Author.Tests.{eq-eqb, ne_eqb}
use lib.Dec.{eqb}
use Rattle.numbers.specs.declared.Number as num
use Rattle.numbers.specs.Fraction.{Answer}
use Rattle.machine.specs.declared.Value.{Value}
use Rattle.machine.specs.declared.Value.TheVariants.{Number, Identifier, Vector, Operator}
use Rattle.machine.specs.declared.ArithOp.{ArithOp}
use Rattle.machine.specs.declared.ArithOp.TheVariants.{Add, Sub, Neg, Abs, Floor, Ceiling, Trunc, Round, Mul, Div, Mod, Rem}
use Rattle.machine.specs.Operand.{as_number, answered}
use Rattle.machine.specs.Ops.Arith.{arith_arity, of_one, of_two, arith_effect}
use Rattle.operands.specs.Operands.{figure_of}
use Rattle.reckoning.specs.Reckoning.{reckoned}
use Rattle.operands.proofs.Reading.{no_figure, is_figure, when_so, when_not}

by_arity : (o : ArithOp) (x y : Value) → cond (eqb (arith_arity o) 1) (of_one (λ b. reckoned o b b) x) (of_two (reckoned o) x y) ≡ arith_effect o x y
unfolding arith_arity arith_effect reckoned
by_arity Add x y = refl
by_arity Sub x y = refl
by_arity Neg x y = refl
by_arity Abs x y = refl
by_arity Floor x y = refl
by_arity Ceiling x y = refl
by_arity Trunc x y = refl
by_arity Round x y = refl
by_arity Mul x y = refl
by_arity Div x y = refl
by_arity Mod x y = refl
by_arity Rem x y = refl

two_none : (f : num.Number → num.Number → Answer) {k : Option num.Number} (x y : Value) → k ≡ figure_of x → k ≡ None → None ≡ of_two f x y
unfolding of_two as_number
two_none f x (Number a) told e = no_figure x _ told e
two_none f x (Identifier origin start len) told e = refl
two_none f x (Vector first lower count) told e = refl
two_none f x (Operator origin start len first) told e = refl

-- x is the topmost value, y the next; k and i are what was told of them
module _ (o : ArithOp) (x y : Value) {k : Option num.Number} (told : k ≡ figure_of x) where
  pub reckon_none : k ≡ None → None ≡ arith_effect o x y
  unfolding of_one
  reckon_none e = go (eqb (arith_arity o) 1) ∙ by_arity o x y
    where
      go : (t : Bool) → None ≡ cond t (of_one (λ b. reckoned o b b) x) (of_two (reckoned o) x y)
      go true = no_figure x _ told e
      go false = two_none (reckoned o) x y told e

  module _ (b : num.Number) (top : k ≡ Some b) where
    pub reckon_one : arith_arity o ≡ 1 → answered (reckoned o b b) ≡ arith_effect o x y
    unfolding of_one
    reckon_one h = is_figure x (λ b. answered (reckoned o b b)) told top ∙ when_so _ _ (eq-eqb _ 1 h) ∙ by_arity o x y

    module _ {i : Option num.Number} (two : arith_arity o ≡ 1 → ⊥) (next : i ≡ figure_of y) where
      pub reckon_below : i ≡ None → None ≡ arith_effect o x y
      unfolding of_two
      reckon_below e = no_figure y _ next e ∙ when_not _ _ (ne_eqb _ 1 two) ∙ by_arity o x y

      pub reckon_two : (a : num.Number) → i ≡ Some a → answered (reckoned o a b) ≡ arith_effect o x y
      unfolding of_two
      reckon_two a e = is_figure x (λ b. answered (reckoned o a b)) told top ∙ is_figure y (λ a. as_number x (λ b. answered (reckoned o a b))) next e ∙ when_not _ _ (ne_eqb _ 1 two) ∙ by_arity o x y
