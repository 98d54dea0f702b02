-- Recovery and the end of a body leave a lower part of the stack and of the contexts, and a running context that is not at its end: what
-- holds of every lower part is kept. In order: what it says; where they land; the contexts alone. Assumes nothing.
use Prim.Native.Nat.{ℕ, ◌<◌}
use mathlib.Core.Path.{◌≡◌, refl}
use mathlib.Core.Bool.{Bool, true, false, cond}
use mathlib.Core.List.{List, [], ◌∷◌}
use lib.Dec.{eqb, ltb}
use lib.ListN.{length}
use borrow.Author.Tests.{ltb-true}
use Rattle.machine.specs.Limits.{most_entries}
use Rattle.machine.specs.State.{Entry, val, mark, Context, zero}
use Rattle.machine.specs.Contexts.{at_end, from, Spot, landed_at, landed, recover, failing, leave_at, leave, skip_at}

-- ---- what it says

-- S of a stack and Q of contexts hold of every lower part; and S with one entry more, where there is room
pub record Lower (S : List Entry → Type 0) (Q : List Context → Type 0) : Type 0 where
  pub no_entries : S []
  pub entries_under : (x : Entry) (s : List Entry) → S (x ∷ s) → S s
  pub owed : (s : List Entry) → length s < most_entries → S s → S (val zero ∷ s)
  pub no_contexts : Q []
  pub contexts_under : (c : Context) (cs : List Context) → Q (c ∷ cs) → Q cs

-- the running context has a literal left
abbrev pub Due : List Context → Type 0
Due [] = Unit
Due (c ∷ cs) = at_end c ≡ false

pub record Lands (S : List Entry → Type 0) (Q : List Context → Type 0) (p : Spot) : Type 0 where
  pub stack_is : S p.stack
  pub contexts_are : Q p.contexts
  pub due : Due p.contexts

-- ---- where they land

pub from_keeps : (Q : List Context → Type 0) → Q [] → ((c : Context) (cs : List Context) → Q (c ∷ cs) → Q cs) → (k : ℕ) (cs : List Context) → Q cs → Q (from k cs)
unfolding from
from_keeps Q nil lower k [] q = nil
from_keeps Q nil lower k (c ∷ cs) q = pick (eqb k c.id) (from_keeps Q nil lower k cs (lower c cs q))
  where
    pick : (b : Bool) → Q (from k cs) → Q (cond b (c ∷ cs) (from k cs))
    pick true h = q
    pick false h = h

module _ {S : List Entry → Type 0} {Q : List Context → Type 0} (w : Lower S Q) where
  pub recover_lands : (s : List Entry) (cs : List Context) → S s → Q cs → Lands S Q (recover s cs)
  unfolding recover landed landed_at
  recover_lands [] cs h q = record { stack_is = h; contexts_are = w.no_contexts; due = tt }
  recover_lands (val v ∷ s) cs h q = recover_lands s cs (w.entries_under (val v) s h) q
  recover_lands (mark k ∷ s) cs h q = found (λ ds. recover_lands s ds (w.entries_under (mark k) s h)) (from k cs) (from_keeps Q w.no_contexts w.contexts_under k cs q)
    where
      found : ((ds : List Context) → Q ds → Lands S Q (recover s ds)) → (fs : List Context) → Q fs → Lands S Q (landed k s cs fs (recover s))
      found ih [] f = ih cs q
      found ih (c ∷ fs) f = at_end_lem (at_end c) refl
        where
          at_end_lem : (b : Bool) → at_end c ≡ b → Lands S Q (landed_at b k s c fs (recover s))
          at_end_lem true e = ih fs (w.contexts_under c fs f)
          at_end_lem false e = record { stack_is = h; contexts_are = f; due = e }

  pub failing_lands : (p : Spot) → Lands S Q p → Lands S Q (failing p)
  unfolding failing
  failing_lands p h = record { stack_is = h.stack_is; contexts_are = h.contexts_are; due = h.due }

  pub leave_lands : (s : List Entry) (cs : List Context) → S s → Q cs → Lands S Q (leave s cs)
  unfolding leave leave_at
  leave_lands s [] h q = record { stack_is = h; contexts_are = q; due = tt }
  leave_lands s (c ∷ cs) h q = pick (λ t g. leave_lands t cs g (w.contexts_under c cs q)) (at_end c) refl c.owes (ltb (length s) most_entries) refl
    where
      pick : ((t : List Entry) → S t → Lands S Q (leave t cs)) → (a : Bool) → at_end c ≡ a → (b r : Bool) → ltb (length s) most_entries ≡ r → Lands S Q (leave_at a b r s c cs (λ t. leave t cs))
      pick ih false e b r l = record { stack_is = h; contexts_are = q; due = e }
      pick ih true e false r l = ih s h
      pick ih true e true true l = ih (val zero ∷ s) (w.owed s (ltb-true (length s) most_entries l) h)
      pick ih true e true false l = failing_lands (recover s cs) (recover_lands s cs h (w.contexts_under c cs q))

  pub skip_lands : (s : List Entry) (c : Context) (cs : List Context) → S s → Q (c ∷ cs) → Lands S Q (skip_at (at_end c) s c cs)
  unfolding skip_at
  skip_lands s c cs h q = pick (at_end c) refl
    where
      pick : (b : Bool) → at_end c ≡ b → Lands S Q (skip_at b s c cs)
      pick true e = recover_lands s cs h (w.contexts_under c cs q)
      pick false e = record { stack_is = h; contexts_are = q; due = e }

-- ---- the contexts alone

abbrev pub anywhere : (Q : List Context → Type 0) → Q [] → ((c : Context) (cs : List Context) → Q (c ∷ cs) → Q cs) → Lower (λ _. Unit) Q
anywhere Q nil lower = record { no_entries = tt; entries_under = λ x s h. tt; owed = λ s l h. tt; no_contexts = nil; contexts_under = lower }

module _ (Q : List Context → Type 0) (nil : Q []) (lower : (c : Context) (cs : List Context) → Q (c ∷ cs) → Q cs) where
  pub recover_keeps : (s : List Entry) (cs : List Context) → Q cs → Q (recover s cs).contexts
  recover_keeps s cs q = (recover_lands (anywhere Q nil lower) s cs tt q).contexts_are

  pub leave_keeps : (s : List Entry) (cs : List Context) → Q cs → Q (leave s cs).contexts
  leave_keeps s cs q = (leave_lands (anywhere Q nil lower) s cs tt q).contexts_are

  pub skip_keeps : (s : List Entry) (c : Context) (cs : List Context) → Q (c ∷ cs) → Q (skip_at (at_end c) s c cs).contexts
  skip_keeps s c cs q = (skip_lands (anywhere Q nil lower) s c cs tt q).contexts_are
