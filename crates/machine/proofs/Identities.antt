-- Identities of contexts fall from the running one down, so each names one context; a called body stands directly above its callers.
-- In order: falling identities; a body and its callers. Assumes nothing.
use Prim.Native.Nat.{ℕ, suc, ◌≤◌, ◌<◌}
use native.Mathlib.Omega.{arith}
use mathlib.Core.Path.{◌≡◌, refl, sym}
use mathlib.Core.Bool.{Bool, true, false, cond, ◌||◌}
use mathlib.Core.List.{List, [], ◌∷◌}
use lib.Dec.{eqb}
use borrow.Author.Tests.{eqb-true, eq-eqb, ne_eqb}
use Rattle.machine.specs.State.{Context, State}
use Rattle.machine.specs.Contexts.{from}
use Rattle.machine.specs.Isolation.{member, below, callers_of}

pub clash : {X : Type 0} → true ≡ false → X
clash e = let z : ◌≡◌ {A = ℕ} 0 1 = cc in absurd (omega arith)

-- ---- falling identities

-- they fall from the running context down, and are below n
abbrev pub Falling : ℕ → List Context → Type 0
Falling n [] = Unit
Falling n (c ∷ cs) = (c.id < n) × Falling c.id cs

-- between steps: no context has the number of a step to come
abbrev pub Good : State → Type 0
Good s = Falling (suc s.steps) s.contexts

pub falling_le : (m n : ℕ) (cs : List Context) → m ≤ n → Falling m cs → Falling n cs
falling_le m n [] h f = tt
falling_le m n (c ∷ cs) h f = (omega (arith, f.0), f.1)

pub falling_tail : (n : ℕ) (c : Context) (cs : List Context) → Falling n (c ∷ cs) → Falling n cs
falling_tail n c cs f = falling_le c.id n cs (omega (arith, f.0)) f.1

-- an identity that is not below n is none of theirs
pub not_member : (k n : ℕ) (cs : List Context) → n ≤ k → Falling n cs → member k cs ≡ false
unfolding member
not_member k n [] h f = refl
not_member k n (c ∷ cs) h f = rw (ne_eqb k c.id (λ e. omega (arith, f.0, e))) (not_member k c.id cs (omega (arith, f.0)) f.1)

pub from_none : (k : ℕ) (cs : List Context) → member k cs ≡ false → from k cs ≡ []
unfolding from member
from_none k [] m = refl
from_none k (c ∷ cs) m = pick (eqb k c.id) m (λ t. from_none k cs t)
  where
    pick : (b : Bool) → b || member k cs ≡ false → (member k cs ≡ false → from k cs ≡ []) → cond b (c ∷ cs) (from k cs) ≡ []
    pick true t ih = clash t
    pick false t ih = ih t

pub from_empty : (k : ℕ) (cs : List Context) → from k cs ≡ [] → member k cs ≡ false
unfolding from member
from_empty k [] e = refl
from_empty k (c ∷ cs) e = pick (eqb k c.id) e (λ t. from_empty k cs t)
  where
    pick : (b : Bool) → cond b (c ∷ cs) (from k cs) ≡ [] → (from k cs ≡ [] → member k cs ≡ false) → b || member k cs ≡ false
    pick true t ih = cc
    pick false t ih = ih t

-- ---- the called body with the identity d, directly above its callers

pub data Above (d : ℕ) (callers : List Context) : List Context → Type 0 where
  here : (c : Context) → c.id ≡ d → Above d callers (c ∷ callers)
  there : (c : Context) {cs : List Context} → Above d callers cs → Above d callers (c ∷ cs)

pub nowhere : {d : ℕ} {callers : List Context} → Above d callers [] → ⊥
nowhere a = elim a [ ]

pub above_falls : (d : ℕ) (callers : List Context) (n : ℕ) (cs : List Context) → Above d callers cs → Falling n cs → Falling d callers
above_falls d callers n cs (here c e) f = rw e at f.1
above_falls d callers n cs (there c a) f = above_falls d callers c.id _ a f.1

pub above_lt : (d : ℕ) (callers : List Context) (n : ℕ) (cs : List Context) → Above d callers cs → Falling n cs → d < n
above_lt d callers n cs (here c e) f = omega (arith, f.0)
above_lt d callers n cs (there c a) f = omega (arith, above_lt d callers c.id _ a f.1, f.0)

pub callers_are : (d : ℕ) (callers : List Context) (n : ℕ) (cs : List Context) → Above d callers cs → Falling n cs → callers_of d cs ≡ callers
unfolding callers_of from below
callers_are d callers n cs (here c e) f = rw (eq-eqb d c.id (sym e))
callers_are d callers n cs (there c {cs = ds} a) f =
    rw (ne_eqb d c.id (λ u. omega (arith, above_lt d callers c.id ds a f.1))) (callers_are d callers c.id ds a f.1)

pub above_callers : (d : ℕ) (cs : List Context) → member d cs ≡ true → Above d (callers_of d cs) cs
unfolding callers_of from member below
above_callers d [] m = clash (sym m)
above_callers d (c ∷ cs) m = pick (eqb d c.id) refl m (λ t. above_callers d cs t)
  where
    pick : (b : Bool) → eqb d c.id ≡ b → b || member d cs ≡ true → (member d cs ≡ true → Above d (below (from d cs)) cs)
        → Above d (below (cond b (c ∷ cs) (from d cs))) (c ∷ cs)
    pick true e t ih = here c (sym (eqb-true d c.id e))
    pick false e t ih = there c (ih t)
