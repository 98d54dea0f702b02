-- An operation that may fail: what its answer says, where only the stack changes, and the limits. Assumes nothing.
use mathlib.Core.Path.{◌≡◌, refl, ap, sym, ◌∙◌}
use mathlib.Core.List.{List}
use mathlib.Core.Option.{Option, none, some}
use Rattle.std.specs.Prelude.{Some, None, IfSome}
use Prim.Native.Nat.{ℕ, ◌-◌, ◌≤◌, ◌<◌}
use native.Mathlib.Omega.{arith}
use borrow.Author.Tests.{le-leb, lt-leb}
use lib.ListN.{length}
use Rattle.table.specs.Slots.{slots}
use Rattle.table.proofs.Moves.{Same}
use Rattle.machine.specs.State.{Entry, State}
use Rattle.machine.specs.Contexts.{above}
use Rattle.machine.specs.Engine.{fits, limited, with_stack, pops}
use Rattle.state.specs.declared.Registers.{Registers}
use Rattle.state.specs.Layout.{stack_of, aside, abs, lent, Busy, Perhaps, Tried}
use Rattle.state.proofs.Parts.{values_same, lent_same, contexts_same, length_stack, length_values, length_contexts, aside_same}
use Rattle.state.proofs.Ending.{state_path}
use Rattle.state.proofs.Cutting.{over_drop, stack_dropped}

-- the registers after a try
abbrev pub trying : Registers → ℕ → ℕ → ℕ → Registers
trying r height depth used = record { height = height; depth = depth; used = used; steps = r.steps; errors = r.errors; skipping = r.skipping }

pub not_none : {X : Type 0} {r : Registers} → Some r ≡ None → X
not_none e = absurd cc

pub tried_no : {f : State → Option State} {w : List ℕ} {r : Registers} {r' : Perhaps} → f (abs w r) ≡ none → r' ≡ None → Tried f w r w r'
tried_no e q = rw q (record { busy = tt; does = sym e; back = λ h. refl; keeps = refl; counted = tt })

pub tried_yes : {f : State → Option State} {w w' : List ℕ} {r r' : Registers} → Busy w' r' → aside w' ≡ aside w → r'.steps ≡ r.steps → f (abs w r) ≡ some (abs w' r') → Tried f w r w' (Some r')
tried_yes g k n e = record { busy = g; does = sym e; back = λ h. not_none h; keeps = k; counted = n }

-- what means the same here
pub tried_as : {f g : State → Option State} {w w' : List ℕ} {r : Registers} {r' : Perhaps} → f (abs w r) ≡ g (abs w r) → Tried g w r w' r' → Tried f w r w' r'
tried_as e t = record { busy = t.busy; does = t.does ∙ sym e; back = t.back; keeps = t.keeps; counted = t.counted }

-- and from other registers
pub tried_from : {f g : State → Option State} {w w' : List ℕ} {r q : Registers} {r' : Perhaps} → f (abs w r) ≡ g (abs w q) → q.steps ≡ r.steps → Tried g w q w' r' → Tried f w r w' r'
tried_from {r} {q} {r'} e n t = record { busy = t.busy; does = t.does ∙ sym e; back = t.back; keeps = t.keeps; counted = counts r' t.counted }
  where
    counts : (r' : Perhaps) → IfSome r' (λ p. p.steps ≡ q.steps) → IfSome r' (λ p. p.steps ≡ r.steps)
    counts None c = c
    counts (Some p) c = c ∙ n

-- ---- only the stack changed

-- what lies above the stack is as before
pub aside_above : (w w' : List ℕ) → Same (slots w') (slots w) 128 1814 → aside w' ≡ aside w
aside_above w w' h = aside_same w' w (λ k f t. h k (omega arith) t)

-- and so are the frames
pub lent_above : (w w' : List ℕ) (d : ℕ) → d ≤ 12 → Same (slots w') (slots w) 128 1814 → lent (slots w') d ≡ lent (slots w) d
lent_above w w' d f h = lent_same (slots w') (slots w) d (λ k a b. h k (omega arith) (omega arith))

pub stack_only : (w w' : List ℕ) (r : Registers) (height : ℕ) (l : List Entry) → Busy w r → Same (slots w') (slots w) 128 1814 → stack_of (slots w') height ≡ l → abs w' (trying r height r.depth r.used) ≡ with_stack l (abs w r)
stack_only w w' r height l g h e =
    let m = slots w in
    let m' = slots w' in
    state_path e
    (contexts_same m' m r.depth r.used (omega (arith, lent_above w w' r.depth g.depth_fits h)) g.cells_fit (λ k f t. h k f (omega arith)) (λ k f t. h k (omega arith) (omega arith)) (λ k f t. h k (omega arith) (omega arith)))
    (values_same m' m 128 50 (λ k f t. h k f (omega arith)))
    (values_same m' m 728 r.used (λ k f t. h k (omega arith) (omega arith)))

pub fits_stack : (w : List ℕ) (r : Registers) (l : List Entry) → Busy w r → length l ≤ 128 → limited (with_stack l (abs w r)) ≡ some (with_stack l (abs w r))
unfolding limited fits
fits_stack w r l g h = rw (le-leb (length l) 128 h, length_contexts, le-leb r.depth 12 g.depth_fits, length_values, le-leb r.used 1024 g.cells_fit)

-- such an operation, done
pub stack_made : {f : State → Option State} {w w' : List ℕ} {r : Registers} {r' : Perhaps} (height : ℕ) (l : List Entry) → Busy w r → 48000 ≤ length w' → height ≤ 128 → Same (slots w') (slots w) 128 1814
    → stack_of (slots w') height ≡ l → f (abs w r) ≡ limited (with_stack l (abs w r)) → r' ≡ Some (trying r height r.depth r.used) → Tried f w r w' r'
stack_made {w} {w'} {r} height l g rm h sm st meant q =
    let len : length l ≤ 128 = omega (arith, ap length st, length_stack (slots w') height) in
    rw q (tried_yes (omega (arith, lent_above w w' r.depth g.depth_fits sm)) (aside_above w w' sm) refl (meant ∙ fits_stack w r l g len ∙ ap some (sym (stack_only w w' r height l g sm st))))

pub full_stack : (w : List ℕ) (r : Registers) (l : List Entry) → 128 < length l → limited (with_stack l (abs w r)) ≡ none
unfolding limited fits
full_stack w r l h = rw (lt-leb (length l) 128 h)

-- ---- within the limits

fits_same : (s : State) → length s.stack ≤ 128 → length s.contexts ≤ 12 → length s.cells ≤ 1024 → limited s ≡ some s
unfolding limited fits
fits_same s h k l = rw (le-leb (length s.stack) 128 h, le-leb (length s.contexts) 12 k, le-leb (length s.cells) 1024 l)

-- the state that a table holds is within the limits
pub fits_abs : (w : List ℕ) (r : Registers) → r.height ≤ 128 → r.depth ≤ 12 → r.used ≤ 1024 → limited (abs w r) ≡ some (abs w r)
fits_abs w r h k l =
    fits_same (abs w r) (omega (arith, length_stack (slots w) r.height)) (omega (arith, length_contexts (slots w) r.depth)) (omega (arith, length_values (slots w) 728 r.used))

-- ---- the values that an operator reads, popped

pub pops_is : (w : List ℕ) (r : Registers) (a k : ℕ) → a ≤ k → k ≤ r.height → k ≡ length (above (stack_of (slots w) r.height)) → abs w (trying r (r.height - a) r.depth r.used) ≡ pops a (abs w r)
unfolding pops
pops_is w r a k h kl ek =
    state_path (sym (over_drop (stack_of (slots w) r.height) a (omega arith) ∙ stack_dropped (slots w) a r.height (omega arith))) refl refl refl
