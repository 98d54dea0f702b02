-- COUNT: the values above the topmost mark, one turn of its loop at a time. Assumes nothing.
use mathlib.Core.Path.{◌≡◌}
use mathlib.Core.List.{List, [], ◌∷◌}
use Prim.Native.Nat.{ℕ, zero, suc, ◌+◌, ◌-◌, ◌≤◌, ◌<◌, min}
use native.Mathlib.Omega.{arith}
use borrow.Author.Tests.{eq-eqb, ne_eqb}
use lib.ListN.{length, get_or, drop}
use Rattle.table.specs.declared.Slot.{Slot}
use Rattle.table.specs.Slots.{nil, desc}
use Rattle.machine.specs.State.{Entry, val, mark}
use Rattle.machine.specs.Contexts.{above, beneath}
use Rattle.state.specs.Layout.{entry_in, stack_of}
use Rattle.state.proofs.Parts.{length_stack, stack_at}
use Rattle.state.proofs.Cutting.{stack_dropped}

-- k values taken off the top, no mark among them
above_less : (s : List Entry) (k : ℕ) → (0 < k → k + length (beneath s) ≤ length s) → k + length (above (drop k s)) ≡ length (above s)
unfolding above beneath
above_less s zero h = omega arith
above_less [] (suc k) h = absurd (omega (arith, h (omega arith)))
above_less (val v ∷ s) (suc k) h = omega (arith, above_less s k (λ p. omega (arith, h (omega arith))))
above_less (mark j ∷ s) (suc k) h = absurd (omega (arith, h (omega arith)))

-- no mark stands at `clear` or above: what stands there is counted
pub count_clear : (m : List Slot) (height clear i : ℕ) → length (beneath (stack_of m height)) ≤ clear → i ≡ min height clear → height - i + length (above (stack_of m i)) ≡ length (above (stack_of m height))
count_clear m height clear i h l =
    let e : height - (height - i) ≡ i = omega arith in
    rw (stack_dropped m (height - i) height (omega arith), e) at (above_less (stack_of m height) (height - i) (λ p. omega (arith, length_stack m height)))

module _ {R : ℕ} (m : List Slot) (i n : ℕ) (inv : n + length (above (stack_of m i)) ≡ R) where
  pub count_end : i ≤ 0 → n ≡ R
  unfolding above stack_of desc
  count_end h =
      let e : i ≡ 0 = omega arith in
      let k : n + length (above (stack_of m 0)) ≡ R = rw e at inv in
      omega arith

  module _ (v : Slot) (got : v ≡ get_or m (i - 1) nil) (h : 0 < i) where
    pub count_stop : v.kind ≡ 5 → n ≡ R
    unfolding above entry_in
    count_stop e =
        let k = rw (stack_at m i v h got, eq-eqb v.kind 5 e) at inv in
        omega arith

    count_more : (v.kind ≡ 5 → ⊥) → n + 1 + length (above (stack_of m (i - 1))) ≡ R
    unfolding above entry_in
    count_more e =
        let k = rw (stack_at m i v h got, ne_eqb v.kind 5 e) at inv in
        omega arith

-- one value more
pub count_next : {R : ℕ} (m : List Slot) (height i : ℕ) → i ≤ height → height - i + length (above (stack_of m i)) ≡ R → (v : Slot) → v ≡ get_or m (i - 1) nil → 0 < i → (v.kind ≡ 5 → ⊥) → height - (i - 1) + length (above (stack_of m (i - 1))) ≡ R
count_next m height i l inv v got h e =
    let z : height - (i - 1) ≡ height - i + 1 = omega arith in
    rw z (count_more m i (height - i) inv v got h e)
