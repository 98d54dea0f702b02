-- While a called body runs, its callers and the stack from their topmost mark down stay as they are, over any number of steps. In order:
-- marks that are no caller's; a change; a step; a run. Assumes nothing.
use Prim.Native.Nat.{ℕ, suc, ◌-◌, ◌≤◌, ◌<◌}
use native.Mathlib.Nat.{le_refl, add-sub_of_le}
use native.Mathlib.Omega.{arith}
use mathlib.Core.Path.{◌≡◌, refl, sym, ap, ◌∙◌}
use mathlib.Core.Bool.{true, false}
use mathlib.Core.List.{List, [], ◌∷◌}
use Rattle.machine.specs.declared.Value.{Value}
use Rattle.machine.specs.State.{Entry, val, mark, Context, State, running}
use Rattle.machine.specs.Literal.{Code}
use Rattle.machine.specs.Contexts.{beneath, over, failing, fault, settle, skipped_in, skipped}
use Rattle.machine.specs.Engine.{pops, noted, store_in}
use Rattle.machine.specs.Step.{begun_in, ended, due_in, step, run}
use Rattle.machine.specs.Isolation.{member, callers_of, guarded, Protected}
use Rattle.machine.proofs.Identities.{clash, Falling, Good, falling_le, not_member, Above, here, there, above_falls, above_lt, callers_are, above_callers}
use Rattle.machine.proofs.Callers.{Stays, inside, gone, recover_stays, leave_stays, skip_stays}
use Rattle.machine.proofs.Changes.{Change, pushes, changes, stores, places, removes, enters}
use Rattle.machine.proofs.Steps.{Begun, begins, step_by_lem, Executed, execute_is, run_add, run_keeps}
use Rattle.machine.proofs.Numbered.{step_count, step_good, run_good, step_gone}

-- ---- values above a mark are no one's

guarded_over : (cs : List Context) (vs : List Value) (s : List Entry) → guarded cs (over vs s) ≡ guarded cs s
unfolding guarded over
guarded_over cs [] s = refl
guarded_over cs (v ∷ vs) s = guarded_over cs vs s

guarded_beneath : (cs : List Context) (s : List Entry) → guarded cs (beneath s) ≡ guarded cs s
unfolding guarded beneath
guarded_beneath cs [] = refl
guarded_beneath cs (val v ∷ s) = guarded_beneath cs s
guarded_beneath cs (mark k ∷ s) = refl

guarded_values : (cs : List Context) (vs : List Value) (s : List Entry) → guarded cs (over vs (beneath s)) ≡ guarded cs s
guarded_values cs vs s = guarded_over cs vs (beneath s) ∙ guarded_beneath cs s

module _ (d : ℕ) (callers : List Context) where
  -- the running context's mark is no caller's
  own : (n : ℕ) (cs : List Context) → Above d callers cs → Falling n cs → member (running cs).id callers ≡ false
  unfolding running
  own n cs (here c e) f = not_member c.id c.id callers (le_refl _) f.1
  own n cs (there c {cs = ds} a) f = not_member c.id d callers (omega (arith, above_lt d callers c.id ds a f.1)) (above_falls d callers c.id ds a f.1)

  dropped : (k : ℕ) (t : List Entry) → member k callers ≡ false → guarded callers (mark k ∷ t) ≡ guarded callers t
  unfolding guarded
  dropped k t m = rw m

  -- ---- a change, from t in which the called body runs to u

  record Fine (t u : State) : Type 0 where
    above : Above d callers u.contexts
    falls : Falling (suc t.steps) u.contexts
    same : guarded callers u.stack ≡ guarded callers t.stack

  store_above : (j : ℕ) (v : Value) (cs : List Context) → Above d callers cs → Above d callers (store_in j v cs)
  unfolding store_in
  store_above j v cs (here c e) = here _ e
  store_above j v cs (there c a) = there _ a

  store_falls : (j : ℕ) (v : Value) (n : ℕ) (cs : List Context) → Falling n cs → Falling n (store_in j v cs)
  unfolding store_in
  store_falls j v n [] f = f
  store_falls j v n (c ∷ cs) f = f

  change_fine : (t u : State) → Above d callers t.contexts → Falling t.steps t.contexts → Change t u → Fine t u
  unfolding noted pops
  change_fine t u a f h = by u h
    where
      more : Falling (suc t.steps) t.contexts
      more = falling_le t.steps _ t.contexts (omega arith) f

      mine : member (running t.contexts).id callers ≡ false
      mine = own _ t.contexts a f

      by : (w : State) → Change t w → Fine t w
      by _ (pushes vs) = record { above = a; falls = more; same = guarded_over callers vs t.stack }
      by _ (changes vs cells) = record { above = a; falls = more; same = guarded_values callers vs t.stack }
      by _ (stores j v) = record { above = store_above j v t.contexts a; falls = store_falls j v _ t.contexts more; same = guarded_values callers _ t.stack }
      by _ (places vs ws) = record { above = a; falls = more; same = guarded_over callers vs _ ∙ dropped _ _ mine ∙ guarded_values callers ws t.stack }
      by _ (removes vs k l e i) = record {
        above = a;
        falls = more;
        same = guarded_over callers vs l ∙ sym (dropped k l (rw i mine)) ∙ ap (guarded callers) (sym e) ∙ guarded_beneath callers t.stack;
      }
      by _ (enters c i l) = record { above = there c a; falls = (omega arith, rw i f); same = refl }

  -- ---- a step

  abbrev StaysIn : State → State → Type 0
  StaysIn s r = Stays d callers (guarded callers s.stack) r.stack r.contexts

  step_stays : (code : Code) (s : State) → ended s.contexts ≡ false → Above d callers s.contexts → Good s → StaysIn s (step code s)
  unfolding begun_in skipped skipped_in fault settle failing pops
  step_stays code s live a g = step_by_lem code s (StaysIn s) Executed live (λ t b. execute_is code _ t) skips fails settles
    where
      under : Falling d callers
      under = above_falls d callers _ s.contexts a g

      moved : (next : ℕ) (c : Context) (cs : List Context) → Above d callers (c ∷ cs) → Above d callers (begun_in next (c ∷ cs) s).contexts
      moved next c cs (here _ e) = here _ e
      moved next c cs (there _ b) = there _ b

      skips : (t : State) → Begun code s t → StaysIn s (skipped t)
      skips t (begins c cs e) = skip_stays d callers under _ s.stack (suc s.steps) _ cs (moved _ c cs (rw e at a)) (rw e at g)

      fails : (t : State) → Begun code s t → StaysIn s (fault t)
      fails t (begins c cs e) = recover_stays d callers under s.stack (suc s.steps) _ (moved _ c cs (rw e at a)) (rw e at g)

      settles : (t u : State) → Begun code s t → Executed t u → StaysIn s (settle u)
      settles t u (begins c cs e) (n, (h, w)) = done (change_fine (pops n t) u (moved _ c cs (rw e at a)) (rw e at g) h)
        where
          done : Fine (pops n (begun_in (due_in code s).next (c ∷ cs) s)) u → StaysIn s (settle u)
          done k = rw (k.same ∙ guarded_values callers _ s.stack) at (leave_stays d callers under u.stack _ u.contexts k.above k.falls)

-- ---- a run

-- the same, with a body that runs no longer told by its identity alone
data Held (d : ℕ) (callers : List Context) (g : List Entry) (s : State) : Type 0 where
  still : Above d callers s.contexts → guarded callers s.stack ≡ g → Held d callers g s
  over_with : member d s.contexts ≡ false → Held d callers g s

module _ (code : Code) (d : ℕ) (callers : List Context) (g : List Entry) where
  record Holding (s : State) : Type 0 where
    good : Good s
    old : d < suc s.steps
    held : Held d callers g s

  step_holding : (s : State) → ended s.contexts ≡ false → Holding s → Holding (step code s)
  step_holding s live h = record { good = step_good code s live h.good; old = rw (step_count code s live) (omega (arith, h.old)); held = by h.held }
    where
      known : Stays d callers (guarded callers s.stack) (step code s).stack (step code s).contexts → Held d callers (guarded callers s.stack) (step code s)
      known (inside b q) = still b q
      known (gone f) = over_with (not_member d d _ (le_refl _) f)

      by : Held d callers g s → Held d callers g (step code s)
      by (still a e) = rw e at (known (step_stays d callers code s live a h.good))
      by (over_with m) = over_with (step_gone code s d live h.old m)

pub run_protected : (code : Code) (n : ℕ) (s : State) (d : ℕ) → Good s → member d s.contexts ≡ true → member d (run n code s).contexts ≡ true → Protected d s (run n code s)
run_protected code n s d good m m' = known (run_keeps code (Holding code d _ _) (step_holding code d _ _) n s (record { good = good; old = above_lt d _ _ _ a good; held = still a refl })).held
  where
    a : Above d (callers_of d s.contexts) s.contexts
    a = above_callers d s.contexts m

    known : Held d (callers_of d s.contexts) (guarded (callers_of d s.contexts) s.stack) (run n code s) → Protected d s (run n code s)
    known (still b q) = record { callers = callers_are d _ _ _ b (run_good code n s good); stack = q }
    known (over_with q) = clash (sym m' ∙ q)

-- between two moments of a run
pub moments_protected : (code : Code) (s : State) (i j d : ℕ) → Good s → i ≤ j → member d (run i code s).contexts ≡ true → member d (run j code s).contexts ≡ true
    → Protected d (run i code s) (run j code s)
moments_protected code s i j d good h m m' = rw e (run_protected code (j - i) (run i code s) d (run_good code i s good) m (rw e at m'))
  where
    e : run j code s ≡ run (j - i) code (run i code s)
    e = ap (λ (n : ℕ). run n code s) (sym (add-sub_of_le h)) ∙ run_add i (j - i) code s
