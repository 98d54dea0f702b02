-- Whether a value in a slot is a Cardinal, and whether all elements of a vector are. In order: one slot; a part of the cells. Assumes
-- nothing.
use mathlib.Core.Path.{◌≡◌, refl, sym, ap, ◌∙◌}
use mathlib.Core.Bool.{Bool, true, false, cond, ◌&&◌}
use Rattle.std.specs.Prelude.{Some, None, is_some}
use mathlib.Core.Logic.{◌⊎◌, inl, inr}
use mathlib.Core.List.{List}
use Prim.Native.Nat.{ℕ, suc, ◌+◌, ◌-◌, ◌≤◌, ◌<◌, min}
use native.Mathlib.Omega.{arith}
use borrow.Author.Tests.{eq-eqb, ne_eqb, ltb-false, lt-leb}
use lib.IntN.{pos, negsuc}
use lib.Dec.{eqb, leb, ltb}
use lib.ListN.{length, get_or, take, drop, length-drop}
use lib.Seq.{drop-cons}
use Rattle.std.proofs.lemmas.Bool.{cases_lt}
use Rattle.std.proofs.lemmas.List.{take_all}
use mir.Syntax.{w32}
use mir.Val.{to_z, sel}
use Rattle.numbers.proofs.Cond.{no_left, no_right}
use Rattle.table.specs.declared.Slot.{Slot}
use Rattle.table.specs.Slots.{nil}
use Rattle.machine.specs.declared.Value.{Value}
use Rattle.machine.specs.declared.Value.TheVariants.{Number}
use Rattle.machine.specs.State as state
use Rattle.machine.specs.Operand.{cardinal_in, cardinal?}
use Rattle.machine.specs.Engine.{is_cardinal, all_cardinals}
use Rattle.state.specs.Layout.{value_in, values_at}
use Rattle.state.proofs.Parts.{length_values}
use Rattle.state.proofs.Cutting.{values_get}

-- ---- one slot

some_by : (n : ℕ) (t : Bool) → t ≡ is_some (cond t (Some n) None)
some_by n true = refl
some_by n false = refl

by_sign : (a d : ℕ) (t : Bool) → ltb a 2147483648 ≡ t → (eqb d 1 && leb a 16777215) ≡ is_cardinal (Number (record { num = sel t (pos a) (negsuc (4294967296 - suc a)); den = d }))
unfolding cardinal? is_cardinal cardinal_in
by_sign a d true e = some_by a (eqb d 1 && leb a 16777215)
by_sign a d false e = no_right (eqb d 1) (leb a 16777215) (lt-leb a 16777215 (omega (arith, ltb-false a 2147483648 e)))

module _ (v : Slot) where
  pub no_number : (v.kind ≡ 2) ⊎ (v.kind ≡ 3) ⊎ (v.kind ≡ 4) → false ≡ is_cardinal (value_in v)
  unfolding value_in cardinal? is_cardinal
  no_number (inl e) = rw e
  no_number (inr (inl e)) = rw e
  no_number (inr (inr e)) = rw e

  module _ (n₂ : v.kind ≡ 2 → ⊥) (n₃ : v.kind ≡ 3 → ⊥) (n₄ : v.kind ≡ 4 → ⊥) where
    number : value_in v ≡ Number (record { num = to_z w32 v.a; den = v.b })
    unfolding value_in
    number = rw (ne_eqb v.kind 2 n₂, ne_eqb v.kind 3 n₃, ne_eqb v.kind 4 n₄)

    -- one test for both signs
    tested : (eqb v.b 1 && leb v.a 16777215) ≡ is_cardinal (value_in v)
    tested = rw number (by_sign v.a v.b (ltb v.a 2147483648) refl)

    pub no_integer : (v.b ≡ 1 → ⊥) → false ≡ is_cardinal (value_in v)
    no_integer n = rw (ne_eqb v.b 1 n) at tested

    pub sized : v.b ≡ 1 → leb v.a 16777215 ≡ is_cardinal (value_in v)
    sized one = rw (eq-eqb v.b 1 one) at tested

-- ---- a part of the cells

module _ (m : List Slot) (used : ℕ) where
  abbrev pub cells : List Value
  cells = values_at m 728 used

  -- so many elements from k on are Cardinals
  abbrev pub cardinals : ℕ → ℕ → Bool
  cardinals k left = all_cardinals (take left (drop k cells))

  -- those that there are, and no more
  pub cells_there : (k left n : ℕ) → n ≡ min used (k + left) - k → cardinals k n ≡ cardinals k left
  cells_there k left n e = go (cases_lt used (k + left))
    where
      rest : length (drop k cells) ≡ used - k
      rest = length-drop k cells ∙ ap (λ (j : ℕ). j - k) (length_values m 728 used)

      go : (used < k + left) ⊎ (k + left ≤ used) → cardinals k n ≡ cardinals k left
      go (inl h) = ap all_cardinals (take_all n _ (omega (arith, rest)) ∙ sym (take_all left _ (omega (arith, rest))))
      go (inr h) = ap (cardinals k) (omega arith)

  pub none_due : (k left : ℕ) → left ≡ 0 → cardinals k left ≡ true
  unfolding all_cardinals
  none_due k left e = rw e

  module _ (k left : ℕ) (h : k < used) (b : Bool) (e : b ≡ is_cardinal (value_in (get_or m (728 + k) nil))) where
    next : (j : ℕ) → cardinals k (suc j) ≡ (b && cardinals (suc k) j)
    unfolding all_cardinals
    next j = rw (drop-cons cells k state.zero (rw length_values h), values_get m 728 used k state.zero h, e)

    due : (left ≡ 0 → ⊥) → left ≡ suc (left - 1)
    due n = omega arith

    pub cardinal_on : (left ≡ 0 → ⊥) → b ≡ true → cardinals k left ≡ cardinals (suc k) (left - 1)
    cardinal_on n t = ap (cardinals k) (due n) ∙ next (left - 1) ∙ ap (λ (x : Bool). x && cardinals (suc k) (left - 1)) t

    pub cardinal_not : (left ≡ 0 → ⊥) → b ≡ false → cardinals k left ≡ false
    cardinal_not n t = ap (cardinals k) (due n) ∙ next (left - 1) ∙ no_left b (cardinals (suc k) (left - 1)) t
