-- A step by its kinds, and any number of steps. In order: one step, what it comes to; a run, by its steps. Assumes nothing.
use Prim.Native.Nat.{ℕ, zero, suc, ◌+◌}
use native.Mathlib.Nat.{zero-add, suc-add}
use mathlib.Core.Path.{◌≡◌, refl, sym, subst}
use mathlib.Core.Bool.{Bool, true, false, cond, not, ◌&&◌}
use mathlib.Core.List.{List, [], ◌∷◌}
use mathlib.Core.Option.{Option, none, some}
use Rattle.machine.specs.declared.Literal.{Literal}
use Rattle.machine.specs.State.{Context, State}
use Rattle.machine.specs.Literal.{Code, Found}
use Rattle.machine.specs.Operators.{popped}
use Rattle.machine.specs.Contexts.{fault, settle, skipped}
use Rattle.machine.specs.Engine.{pops, affected}
use Rattle.machine.specs.Step.{effect_at, execute, executed, is_unmark0, begun_in, begun, literal_step, ended, step_by, due_in, step, run}
use Rattle.machine.proofs.Identities.{clash}
use Rattle.machine.proofs.Changes.{OnSome, provided_on, Changed, affected_changed}

-- ---- one step

-- s once its step has begun: the running context is past the literal
pub data Begun (code : Code) (s : State) : State → Type 0 where
  begins : (c : Context) (cs : List Context) → s.contexts ≡ c ∷ cs → Begun code s (begun_in (due_in code s).next (c ∷ cs) s)

-- a run that has not ended has a running context
pub by_contexts : {X : Type 0} (s : State) → ended s.contexts ≡ false → ((c : Context) (cs : List Context) → s.contexts ≡ c ∷ cs → X) → X
unfolding ended
by_contexts {X} s live f = pick s.contexts refl live
  where
    pick : (cs : List Context) → s.contexts ≡ cs → ended cs ≡ false → X
    pick [] e h = clash h
    pick (c ∷ cs) e h = f c cs e

begun_is : (code : Code) (s : State) → ended s.contexts ≡ false → Begun code s (begun (due_in code s).next s)
unfolding begun
begun_is code s live = by_contexts s live (λ c cs e. subst (λ (ds : List Context). Begun code s (begun_in (due_in code s).next ds s)) (sym e) (begins c cs e))

-- a literal passed over, one that failed, or one that led from t to u with R
pub step_by_lem : (code : Code) (s : State) (P : State → Type 0) (R : State → State → Type 0) → ended s.contexts ≡ false
    → ((t : State) → Begun code s t → OnSome (R t) (execute code (due_in code s).literal t))
    → ((t : State) → Begun code s t → P (skipped t)) → ((t : State) → Begun code s t → P (fault t))
    → ((t u : State) → Begun code s t → R t u → P (settle u)) → P (step code s)
unfolding step step_by literal_step executed
step_by_lem code s P R live acts skips fails settles = pick (s.skipping && not (is_unmark0 f.literal))
  where
    f : Found
    f = due_in code s

    t : State
    t = begun f.next s

    b : Begun code s t
    b = begun_is code s live

    done : (o : Option State) → OnSome (R t) o → P (executed t o)
    done none h = fails t b
    done (some u) h = settles t u b h

    pick : (q : Bool) → P (literal_step code q f.literal t)
    pick true = skips t b
    pick false = done (execute code f.literal t) (acts t b)

-- an executed literal pops n values, then changes the state
abbrev pub Executed : State → State → Type 0
Executed t u = (n : ℕ) × Changed (pops n t) u

pub execute_is : (code : Code) (x : Literal) (t : State) → OnSome (Executed t) (execute code x t)
unfolding execute
execute_is code x t = provided_on _ _ _ (λ _. on (affected code (effect_at x t) (pops (popped x) t)) (affected_changed code (pops (popped x) t) (effect_at x t)))
  where
    on : (o : Option State) → OnSome (Changed (pops (popped x) t)) o → OnSome (Executed t) o
    on none h = tt
    on (some u) h = (popped x, h)

-- ---- any number of steps

pub run_ended : (n : ℕ) (code : Code) (s : State) → ended s.contexts ≡ true → run n code s ≡ s
unfolding run
run_ended zero code s e = refl
run_ended (suc n) code s e = rw (e, run)

run_step : (n : ℕ) (code : Code) (s : State) → ended s.contexts ≡ false → run (suc n) code s ≡ run n code (step code s)
unfolding run
run_step n code s e = rw (e, run)

-- the moment after m + n steps, seen from that after m
pub run_add : (m n : ℕ) (code : Code) (s : State) → run (m + n) code s ≡ run n code (run m code s)
run_add zero n code s = rw zero-add (unfold run in refl)
run_add (suc m) n code s = rw suc-add (pick (ended s.contexts) refl (run_add m n code (step code s)))
  where
    pick : (b : Bool) → ended s.contexts ≡ b → run (m + n) code (step code s) ≡ run n code (run m code (step code s)) → run (suc (m + n)) code s ≡ run n code (run (suc m) code s)
    pick true e ih = simp (run_ended (suc (m + n)) code s e, run_ended (suc m) code s e, run_ended n code s e)
    pick false e ih = rw (run_step (m + n) code s e, run_step m code s e) ih

-- what a step keeps, a run keeps
pub run_keeps : (code : Code) (P : State → Type 0) → ((s : State) → ended s.contexts ≡ false → P s → P (step code s)) → (n : ℕ) (s : State) → P s → P (run n code s)
unfolding run
run_keeps code P h zero s p = p
run_keeps code P h (suc n) s p = pick (ended s.contexts) refl (λ q. run_keeps code P h n (step code s) q)
  where
    pick : (b : Bool) → ended s.contexts ≡ b → (P (step code s) → P (run n code (step code s))) → P (cond b s (run n code (step code s)))
    pick true e ih = p
    pick false e ih = ih (h s e p)
