-- Mark recovery, one turn of its loops at a time. Assumes nothing.
use mathlib.Core.Path.{◌≡◌, ◌∙◌}
use mathlib.Core.List.{List, ◌∷◌}
use Prim.Native.Nat.{ℕ, ◌+◌, ◌-◌, ◌≤◌, ◌<◌}
use native.Mathlib.Omega.{arith}
use borrow.Author.Tests.{eq-eqb, ne_eqb, le-leb, lt-leb}
use lib.ListN.{get_or}
use Rattle.table.specs.declared.Slot.{Slot}
use Rattle.table.specs.Slots.{nil, desc}
use Rattle.machine.specs.State.{mark, Context}
use Rattle.machine.specs.Contexts.{at_end, from, Spot, landed_at, landed, recover}
use Rattle.state.specs.Layout.{entry_in, stack_of, context_in, contexts_of, spot}
use Rattle.state.proofs.Parts.{stack_at, contexts_at}

-- ---- the search of a context

module _ {R : List Context} (m : List Slot) (k i : ℕ) (inv : from k (contexts_of m i) ≡ R) where
  pub find_none : i ≤ 0 → contexts_of m 0 ≡ R
  unfolding from contexts_of
  find_none h = let e : i ≡ 0 = omega arith in rw e at inv

  module _ (c : Slot) (got : c ≡ get_or m (1752 + (i - 1)) nil) (h : 0 < i) where
    pub find_here : k ≡ c.kind → contexts_of m i ≡ R
    unfolding from context_in
    find_here e = contexts_at m i c h got ∙ (rw (contexts_at m i c h got, eq-eqb k c.kind e) at inv)

    pub find_on : (k ≡ c.kind → ⊥) → from k (contexts_of m (i - 1)) ≡ R
    unfolding from context_in
    find_on e = rw (contexts_at m i c h got, ne_eqb k c.kind e) at inv

-- ---- recovery

module _ {R : Spot} (m : List Slot) (height depth : ℕ) (inv : recover (stack_of m height) (contexts_of m depth) ≡ R) where
  pub land_bottom : height ≤ 0 → spot m 0 0 ≡ R
  unfolding spot recover stack_of contexts_of desc
  land_bottom h = let e : height ≡ 0 = omega arith in rw e at inv

  module _ (v : Slot) (got : v ≡ get_or m (height - 1) nil) (h : 0 < height) where
    -- a value is dropped
    pub land_value : (v.kind ≡ 5 → ⊥) → recover (stack_of m (height - 1)) (contexts_of m depth) ≡ R
    unfolding recover entry_in
    land_value e = rw (stack_at m height v h got, ne_eqb v.kind 5 e) at inv

    module _ (e : v.kind ≡ 5) (d : ℕ) (found : contexts_of m d ≡ from v.a (contexts_of m depth)) where
      reads : stack_of m height ≡ mark v.a ∷ stack_of m (height - 1)
      unfolding entry_in
      reads = rw (eq-eqb v.kind 5 e) at (stack_at m height v h got)

      at_mark : landed v.a (stack_of m (height - 1)) (contexts_of m depth) (contexts_of m d) (λ ds. recover (stack_of m (height - 1)) ds) ≡ R
      unfolding recover
      at_mark = rw (reads, ← found) at inv

      -- the mark's context is gone
      pub land_dead : d ≡ 0 → recover (stack_of m (height - 1)) (contexts_of m depth) ≡ R
      unfolding landed contexts_of
      land_dead z = rw z at at_mark

      module _ (c : Slot) (has : c ≡ get_or m (1752 + (d - 1)) nil) (nz : d ≡ 0 → ⊥) where
        l : 0 < d
        l = omega arith

        -- the mark's context has a literal left
        pub land_here : c.b < c.c → spot m height d ≡ R
        unfolding spot landed landed_at at_end context_in
        land_here t = rw (reads, contexts_at m d c l has) (rw (contexts_at m d c l has, lt-leb c.c c.b t) at at_mark)

        -- it has none, and is left
        pub land_left : c.c ≤ c.b → recover (stack_of m (height - 1)) (contexts_of m (d - 1)) ≡ R
        unfolding landed landed_at at_end context_in
        land_left t = rw (contexts_at m d c l has, le-leb c.c c.b t) at at_mark
