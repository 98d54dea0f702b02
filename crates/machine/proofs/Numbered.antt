-- No identity comes back: a step enters at most one context, named by its own number. In order: what holds of the contexts, by a step;
-- the count of steps; identities. Assumes nothing.
use Prim.Native.Nat.{ℕ, suc, ◌<◌}
use native.Mathlib.Omega.{arith}
use mathlib.Core.Path.{◌≡◌, refl, ◌∙◌}
use mathlib.Core.Bool.{Bool, true, false, ◌||◌}
use mathlib.Core.List.{List, [], ◌∷◌}
use lib.Dec.{eqb}
use borrow.Author.Tests.{ne_eqb}
use Rattle.machine.specs.declared.Value.{Value}
use Rattle.machine.specs.State.{Context, State}
use Rattle.machine.specs.Literal.{Code}
use Rattle.machine.specs.Contexts.{failing, fault, settle, skipped_in, skipped}
use Rattle.machine.specs.Engine.{pops, noted, store_in}
use Rattle.machine.specs.Step.{begun_in, ended, step, run, begin}
use Rattle.machine.specs.Isolation.{member}
use Rattle.machine.proofs.Identities.{clash, Falling, Good, falling_le, falling_tail}
use Rattle.machine.proofs.Recovery.{recover_keeps, leave_keeps, skip_keeps}
use Rattle.machine.proofs.Changes.{Change, pushes, changes, stores, places, removes, enters}
use Rattle.machine.proofs.Steps.{Begun, begins, step_by_lem, Executed, execute_is, run_keeps}

-- ---- Q₀ of the contexts before, Q of them after a step

module _ (code : Code) (s : State) (Q₀ Q : List Context → Type 0) (nil : Q []) (lower : (c : Context) (cs : List Context) → Q (c ∷ cs) → Q cs)
    (weaker : (cs : List Context) → Q₀ cs → Q cs)
    (head : (c e : Context) (cs : List Context) → e.id ≡ c.id → Q₀ (c ∷ cs) → Q₀ (e ∷ cs))
    (fresh : (e : Context) (cs : List Context) → e.id ≡ suc s.steps → Q₀ cs → Q (e ∷ cs)) where
  stored_holds : (j : ℕ) (v : Value) (cs : List Context) → Q₀ cs → Q₀ (store_in j v cs)
  unfolding store_in
  stored_holds j v [] q = q
  stored_holds j v (c ∷ cs) q = head c _ cs refl q

  changed_holds : (t u : State) → t.steps ≡ suc s.steps → Q₀ t.contexts → Change t u → Q u.contexts
  unfolding noted pops
  changed_holds t u n q (pushes vs) = weaker _ q
  changed_holds t u n q (changes vs cells) = weaker _ q
  changed_holds t u n q (stores j v) = weaker _ (stored_holds j v t.contexts q)
  changed_holds t u n q (places vs ws) = weaker _ q
  changed_holds t u n q (removes vs k l e i) = weaker _ q
  changed_holds t u n q (enters c i h) = fresh c t.contexts (i ∙ n) q

  pub step_holds : ended s.contexts ≡ false → Q₀ s.contexts → Q (step code s).contexts
  unfolding begun_in skipped skipped_in fault settle failing pops
  step_holds live q = step_by_lem code s (λ r. Q r.contexts) Executed live (λ t b. execute_is code _ t) skips fails settles
    where
      first : (next : ℕ) (c : Context) (cs : List Context) → s.contexts ≡ c ∷ cs → Q₀ (begun_in next (c ∷ cs) s).contexts
      first next c cs e = head c _ cs refl (rw e at q)

      skips : (t : State) → Begun code s t → Q (skipped t).contexts
      skips t (begins c cs e) = skip_keeps Q nil lower s.stack _ cs (weaker _ (first _ c cs e))

      fails : (t : State) → Begun code s t → Q (fault t).contexts
      fails t (begins c cs e) = recover_keeps Q nil lower s.stack _ (weaker _ (first _ c cs e))

      settles : (t u : State) → Begun code s t → Executed t u → Q (settle u).contexts
      settles t u (begins c cs e) (n, (h, w)) = leave_keeps Q nil lower u.stack u.contexts (changed_holds (pops n t) u refl (first _ c cs e) h)

-- ---- a step counts one

changed_count : (t u : State) → Change t u → u.steps ≡ t.steps
unfolding noted pops
changed_count t u (pushes vs) = refl
changed_count t u (changes vs cells) = refl
changed_count t u (stores j v) = refl
changed_count t u (places vs ws) = refl
changed_count t u (removes vs k l e i) = refl
changed_count t u (enters c i h) = refl

pub step_count : (code : Code) (s : State) → ended s.contexts ≡ false → (step code s).steps ≡ suc s.steps
unfolding begun_in skipped skipped_in fault settle pops
step_count code s live = step_by_lem code s (λ r. r.steps ≡ suc s.steps) Executed live (λ t b. execute_is code _ t) skips fails settles
  where
    skips : (t : State) → Begun code s t → (skipped t).steps ≡ suc s.steps
    skips t (begins c cs e) = refl

    fails : (t : State) → Begun code s t → (fault t).steps ≡ suc s.steps
    fails t (begins c cs e) = refl

    settles : (t u : State) → Begun code s t → Executed t u → (settle u).steps ≡ suc s.steps
    settles t u (begins c cs e) (n, (h, w)) = changed_count (pops n t) u h

-- ---- identities

pub step_good : (code : Code) (s : State) → ended s.contexts ≡ false → Good s → Good (step code s)
step_good code s live g =
    rw (step_count code s live) (step_holds code s (Falling (suc s.steps)) (Falling (suc (suc s.steps))) tt (falling_tail _)
    (λ cs f. falling_le _ _ cs (omega arith) f) (λ c e cs q f. rw q f) (λ e cs q f. (omega arith, rw q f)) live g)

-- a body begins with the engine's context alone
pub begin_good : (code : Code) (origin : ℕ) (frame cells : List Value) → Good (begin code origin frame cells)
unfolding begin settle
begin_good code origin frame cells = leave_keeps (Falling 1) tt (falling_tail 1) [] _ (omega arith, tt)

pub run_good : (code : Code) (n : ℕ) (s : State) → Good s → Good (run n code s)
run_good code = run_keeps code Good (step_good code)

or_lower : (a b : Bool) → a || b ≡ false → b ≡ false
or_lower true b e = clash e
or_lower false b e = e

-- a body that runs no longer does not run again
pub step_gone : (code : Code) (s : State) (d : ℕ) → ended s.contexts ≡ false → d < suc s.steps → member d s.contexts ≡ false → member d (step code s).contexts ≡ false
unfolding member
step_gone code s d live h =
    step_holds code s (λ cs. member d cs ≡ false) (λ cs. member d cs ≡ false) refl (λ c cs q. or_lower (eqb d c.id) _ q) (λ cs q. q)
    (λ c e cs i q. rw i q) (λ e cs i q. rw (ne_eqb d e.id (λ u. omega arith)) q) live
