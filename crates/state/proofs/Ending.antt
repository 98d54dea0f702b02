-- What recovery and the end of bodies make of a state. Assumes nothing.
use mathlib.Core.Path.{◌≡◌, refl, ◌∙◌}
use mathlib.Core.Bool.{Bool, true, false}
use mathlib.Core.Logic.{inl}
use mathlib.Core.List.{List}
use Prim.Native.Nat.{ℕ, ◌+◌, ◌-◌, ◌≤◌, ◌<◌}
use native.Mathlib.Numerals.{add-one}
use native.Mathlib.Omega.{arith}
use borrow.Author.Tests.{le-leb, lt-leb, lt-ltb, le-ltb}
use lib.ListN.{get_or, set, length-set}
use Rattle.table.specs.declared.Slot.{Slot}
use Rattle.table.specs.Slots.{nil, mk, slots}
use Rattle.table.proofs.Moves.{same_set}
use Rattle.machine.specs.declared.Value.{Value}
use Rattle.machine.specs.State.{Entry, val, Context, State}
use Rattle.machine.specs.Contexts.{at_end, recover, failing, leave_at, leave, skip_at, fault, settle, skipped_in, skipped}
use Rattle.state.specs.declared.Registers.{Registers}
use Rattle.state.specs.Layout.{value_in, entry_in, stack_of, context_in, contexts_of, abs, lent, Good, Busy, Done, spot, Landed}
use Rattle.state.proofs.Parts.{wide, room_of_lem, values_same, lent_same, lent_less, contexts_same, length_stack, stack_more, contexts_at}
use Rattle.machine.specs.State as state

-- a state is equal to another by its parts
pub state_path : {s s' : List Entry} {c c' : List Context} {f f' l l' : List Value} {b : Bool} {n e : ℕ} → s ≡ s' → c ≡ c' → f ≡ f' → l ≡ l'
    → ◌≡◌ {A = State} (record { stack = s; contexts = c; frame = f; cells = l; skipping = b; steps = n; errors = e }) (record { stack = s'; contexts = c'; frame = f'; cells = l'; skipping = b; steps = n; errors = e })
state_path {b} {n} {e} p q r t = λ i. record { stack = p i; contexts = q i; frame = r i; cells = t i; skipping = b; steps = n; errors = e }

-- ---- registers replaced

abbrev pub moved : Registers → ℕ → ℕ → ℕ → Bool → Registers
moved r height depth errors b = record { height = height; depth = depth; used = r.used; steps = r.steps; errors = errors; skipping = b }

-- ---- recovery

pub fault_done : {w : List ℕ} {r r' : Registers} (height depth : ℕ) → Good w r → r.errors < r.steps
    → Landed (slots w) (recover (stack_of (slots w) r.height) (contexts_of (slots w) r.depth)) r.height r.depth height depth
    → r' ≡ moved r height depth (r.errors + 1) true → Done fault w r w r'
unfolding fault failing spot
fault_done {w} {r} {r'} height depth g l p e =
    rw e (record {
      good = omega (arith, p.lower, p.fewer, lent_less (slots w) r.depth depth p.fewer);
      keeps = refl;
      counted = refl;
      does = rw (← p.lands, add-one r.errors);
    })

-- a context is left
pub left_good : {w : List ℕ} {r r' : Registers} → Good w r → r' ≡ moved r r.height (r.depth - 1) r.errors r.skipping → Good w r'
left_good {w} {r} {r'} g e = rw e (omega (arith, lent_less (slots w) r.depth (r.depth - 1) (omega arith)))

-- and 0 is pushed
pub paid_good : {w w' : List ℕ} {r r' : Registers} (v : Slot) → Good w r → r.height < 128 → slots w' ≡ set (slots w) r.height v → r' ≡ moved r (r.height + 1) (r.depth - 1) r.errors r.skipping → Good w' r'
paid_good {w} {w'} {r} {r'} v g f p e =
    let m = slots w in
    let m' = set m r.height v in
    let rm = room_of_lem w' m' p (rw length-set (wide w g.room)) in
    let d = r.depth - 1 in
    let fr : lent (slots w') d ≤ r.used =
    rw p (omega (arith, lent_same m' m d (same_set m r.height v 1752 _ (inl (omega arith))), lent_less m r.depth d (omega arith), g.frames_fit)) in
    rw e (omega arith)

zero_entry : entry_in (mk 1 0 1 0 0) ≡ val state.zero
unfolding entry_in value_in
zero_entry = refl

-- ---- the end of bodies, one turn of the loop at a time

module _ {R : State} (w : List ℕ) (r : Registers) (inv : settle (abs w r) ≡ R) where
  pub leave_all : {r' : Registers} → r.depth ≤ 0 → r' ≡ moved r r.height r.depth r.errors false → abs w r' ≡ R
  unfolding settle leave contexts_of
  leave_all {r'} h e = let z : r.depth ≡ 0 = omega arith in rw e (rw z (rw z at inv))

  module _ (c : Slot) (got : c ≡ get_or (slots w) (1752 + (r.depth - 1)) nil) (h : 0 < r.depth) where
    pub leave_stop : {r' : Registers} → c.b < c.c → r' ≡ moved r r.height r.depth r.errors false → abs w r' ≡ R
    unfolding settle leave leave_at at_end context_in
    leave_stop {r'} t e = rw (e, contexts_at (slots w) r.depth c h got) (rw (contexts_at (slots w) r.depth c h got, lt-leb c.c c.b t) at inv)

    module _ (t : c.c ≤ c.b) where
      pub leave_on : {r' : Registers} → c.d < 4096 → r' ≡ moved r r.height (r.depth - 1) r.errors r.skipping → settle (abs w r') ≡ R
      unfolding settle leave leave_at at_end context_in
      leave_on {r'} n e = rw e (rw (contexts_at (slots w) r.depth c h got, le-leb c.c c.b t, lt-leb 4096 c.d n) at inv)

      pub leave_pay : {r' : Registers} (w' : List ℕ) (v : Slot) → Good w r → 4096 ≤ c.d → r.height < 128 → v ≡ mk 1 0 1 0 0 → slots w' ≡ set (slots w) r.height v → r' ≡ moved r (r.height + 1) (r.depth - 1) r.errors r.skipping → settle (abs w' r') ≡ R
      unfolding settle leave leave_at at_end context_in
      leave_pay {r'} w' v g o f z p e =
          let m = slots w in
          let height = r.height in
          let k = mk 1 0 1 0 0 in
          let room = wide w g.room in
          let there = same_set m height k 1752 (1752 + (r.depth - 1)) (inl (omega arith)) in
          let kept : lent (set m height k) (r.depth - 1) ≤ r.used = omega (arith, lent_same (set m height k) m (r.depth - 1) there, lent_less m r.depth (r.depth - 1) (omega arith)) in
          rw (
            e,
            p,
            z,
            stack_more m height k (omega arith),
            zero_entry,
            contexts_same (set m height k) m (r.depth - 1) r.used kept g.cells_fit (same_set m height k 128 _ (inl f)) (same_set m height k 728 _ (inl (omega arith))) there,
            values_same (set m height k) m 128 50 (same_set m height k 128 _ (inl f)),
            values_same (set m height k) m 728 r.used (same_set m height k 728 _ (inl (omega arith))),
          )
          (rw (contexts_at m r.depth c h got, le-leb c.c c.b t, le-leb 4096 c.d o, length_stack, lt-ltb height 128 f) at inv)

      pub leave_full : {r₁ r' : Registers} → 4096 ≤ c.d → 128 ≤ r.height → r₁ ≡ moved r r.height (r.depth - 1) r.errors r.skipping → Done fault w r₁ w r' → abs w r' ≡ R
      unfolding settle fault leave leave_at at_end context_in
      leave_full {r₁} {r'} o f e d =
          (rw e at d.does) ∙
          (rw (contexts_at (slots w) r.depth c h got, le-leb c.c c.b t, le-leb 4096 c.d o, length_stack, le-ltb r.height 128 f) at inv)

-- ---- a literal passed over

module _ {w : List ℕ} {r : Registers} (c : Slot) (g : Busy w r) (got : c ≡ get_or (slots w) (1752 + (r.depth - 1)) nil) (b : r.skipping ≡ true) where
  pub skip_stop : {r' : Registers} → c.b < c.c → r' ≡ r → Done skipped w r w r'
  unfolding skipped skipped_in skip_at at_end context_in
  skip_stop {r'} t e =
      rw e (record {
        good = omega arith;
        keeps = refl;
        counted = refl;
        does = rw (contexts_at (slots w) r.depth c g.runs got, lt-leb c.c c.b t, b);
      })

  pub skip_left : {r' : Registers} (height depth : ℕ) → c.c ≤ c.b
      → Landed (slots w) (recover (stack_of (slots w) r.height) (contexts_of (slots w) (r.depth - 1))) r.height (r.depth - 1) height depth
      → r' ≡ moved r height depth r.errors r.skipping → Done skipped w r w r'
  unfolding skipped skipped_in skip_at at_end context_in spot
  skip_left {r'} height depth t p e =
      rw e (record {
        good = omega (arith, p.lower, p.fewer, lent_less (slots w) r.depth depth (omega (arith, p.fewer)));
        keeps = refl;
        counted = refl;
        does = rw (contexts_at (slots w) r.depth c g.runs got, le-leb c.c c.b t, ← p.lands, b);
      })

pub not_on : {X : Type 0} → false ≡ true → X
not_on e = let z : ◌≡◌ {A = ℕ} 0 1 = cc in absurd (omega arith)
