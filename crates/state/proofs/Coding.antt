-- A value as a slot, and back. Assumes nothing.
use mathlib.Core.Path.{◌≡◌, refl, ap, sym, ◌∙◌}
use Prim.Native.Nat.{ℕ, ◌<◌}
use native.Mathlib.Omega.{arith}
use borrow.Author.Tests.{ne_eqb}
use lib.IntN.{ℤ}
use mir.Syntax.{w32}
use mir.Val.{to_z}
use Rattle.table.specs.declared.Slot.{Slot}
use Rattle.table.specs.Slots.{mk}
use Rattle.numbers.specs.declared.Number as num
use Rattle.machine.specs.declared.Value.TheVariants.{Number, Identifier, Vector, Operator}
use Rattle.state.specs.Layout.{value_in}
use lib.Signed.{mag}
use native.Mathlib.Nat.{mod-eq_of_lt}
use Rattle.state.specs.Layout.{half}
use mir.Val.{of_z}
use mir.Facts.{to_z-of_z, sfits_to_z}

-- ---- from a slot

pub from_identifier : (v : Slot) → v.kind ≡ 2 → Identifier v.a v.b v.c ≡ value_in v
unfolding value_in
from_identifier v e = rw e

pub from_vector : (v : Slot) → v.kind ≡ 3 → Vector (half v.a) (half v.b) (half v.c) ≡ value_in v
unfolding value_in
from_vector v e = rw e

pub from_operator : (v : Slot) → v.kind ≡ 4 → Operator v.a v.b v.c v.d ≡ value_in v
unfolding value_in
from_operator v e = rw e

pub from_number : (v : Slot) {z : ℤ} → (v.kind ≡ 2 → ⊥) → (v.kind ≡ 3 → ⊥) → (v.kind ≡ 4 → ⊥) → v.a < 4294967296 → z ≡ to_z w32 v.a → Number (record { num = to_z w32 (of_z w32 z); den = v.b }) ≡ value_in v
unfolding value_in
from_number v n₂ n₃ n₄ h e =
    let back : to_z w32 (of_z w32 (to_z w32 v.a)) ≡ to_z w32 v.a = to_z-of_z {w = w32} (sfits_to_z {w = w32} (record { fits = h })) in
    rw (e, back, ne_eqb v.kind 2 n₂, ne_eqb v.kind 3 n₃, ne_eqb v.kind 4 n₄)

-- ---- to a slot

not_five : (n : ℕ) → n < 5 → n ≡ 5 → ⊥
not_five n h e = omega arith

pub zero_plain : (z : Slot) → z ≡ mk 1 0 1 0 0 → z.kind ≡ 5 → ⊥
zero_plain z e h = not_five 1 (omega arith) (sym (ap (λ (v : Slot). v.kind) e) ∙ h)

pub number_back : (a : num.Number) (x : ℕ) → mag a.num < 2147483648 → x ≡ of_z w32 (to_z w32 (of_z w32 a.num)) → (value_in (mk 1 x a.den 0 0) ≡ Number a) × (◌≡◌ {A = ℕ} 1 5 → ⊥)
unfolding value_in
number_back a x f g =
    let back : to_z w32 (of_z w32 a.num) ≡ a.num = to_z-of_z {w = w32} (record { sfits = f }) in
    (rw (g, back, back), not_five 1 (omega arith))

pub name_slot : (o s l : ℕ) → (value_in (mk 2 o s l 0) ≡ Identifier o s l) × (◌≡◌ {A = ℕ} 2 5 → ⊥)
unfolding value_in
name_slot o s l = (refl, not_five 2 (omega arith))

pub vector_slot : (f l n : ℕ) → f < 2147483648 → l < 2147483648 → n < 2147483648 → value_in (mk 3 f l n 0) ≡ Vector f l n
unfolding value_in
vector_slot f l n h i k = rw (mod-eq_of_lt h, mod-eq_of_lt i, mod-eq_of_lt k)
