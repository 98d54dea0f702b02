-- Recovery, the end of bodies and passing over, seen from the callers of a body: while it runs they leave what is the callers' alone.
-- In order: a body that still runs or is gone; where a mark's context is found; recovery; the rest. Assumes nothing.
use Prim.Native.Nat.{ℕ}
use native.Mathlib.Omega.{arith}
use mathlib.Core.Path.{◌≡◌, refl, sym, ◌∙◌}
use mathlib.Core.Bool.{Bool, true, false, cond}
use mathlib.Core.List.{List, [], ◌∷◌}
use lib.Dec.{eqb, ltb}
use lib.ListN.{length}
use borrow.Author.Tests.{eqb-true}
use Rattle.machine.specs.Limits.{most_entries}
use Rattle.machine.specs.State.{Entry, val, mark, Context, zero}
use Rattle.machine.specs.Contexts.{Spot, at_end, from, landed_at, landed, recover, failing, leave_at, leave, skip_at}
use Rattle.machine.specs.Isolation.{member, guarded}
use Rattle.machine.proofs.Identities.{clash, Falling, falling_tail, not_member, from_none, from_empty, Above, here, there, above_lt}
use Rattle.machine.proofs.Recovery.{from_keeps, recover_keeps, leave_keeps}

-- it still runs, and what it must not touch is g; or it runs no longer: every identity is below d
pub data Stays (d : ℕ) (callers : List Context) (g stack : List Entry) (contexts : List Context) : Type 0 where
  inside : Above d callers contexts → guarded callers stack ≡ g → Stays d callers g stack contexts
  gone : Falling d contexts → Stays d callers g stack contexts

abbrev StaysAt : ℕ → List Context → List Entry → Spot → Type 0
StaysAt d callers g p = Stays d callers g p.stack p.contexts

module _ (d : ℕ) (callers : List Context) (under : Falling d callers) where
  -- where `from k` stops: above the callers, and k is none of theirs; or among them
  data Split (k : ℕ) (found : List Context) : Type 0 where
    high : Above d callers found → member k callers ≡ false → Split k found
    low : found ≡ from k callers → Split k found

  from_split : (k n : ℕ) (cs : List Context) → Above d callers cs → Falling n cs → Split k (from k cs)
  unfolding from
  from_split k n cs (here c e) f = pick (eqb k c.id) refl
    where
      pick : (b : Bool) → eqb k c.id ≡ b → Split k (cond b (c ∷ callers) (from k callers))
      pick true q = high (here c e) (not_member k d callers (omega (arith, eqb-true k c.id q)) under)
      pick false q = low refl
  from_split k n cs (there c {cs = ds} a) f = pick (eqb k c.id) refl (from_split k c.id ds a f.1)
    where
      pick : (b : Bool) → eqb k c.id ≡ b → Split k (from k ds) → Split k (cond b (c ∷ ds) (from k ds))
      pick true q h = high (there c a) (not_member k d callers (omega (arith, eqb-true k c.id q, above_lt d callers c.id ds a f.1)) under)
      pick false q h = h

  recover_gone : (s : List Entry) (cs : List Context) → Falling d cs → Falling d (recover s cs).contexts
  recover_gone = recover_keeps (Falling d) tt (falling_tail d)

  -- the case of a mark
  module _ (k : ℕ) (s : List Entry) (cs : List Context)
      (ih : (m : ℕ) (ds : List Context) → Above d callers ds → Falling m ds → StaysAt d callers (guarded callers s) (recover s ds)) where
    among : (g : List Entry) (fs : List Context) → member k callers ≡ true → Falling d fs → fs ≡ from k callers → StaysAt d callers g (landed k s cs fs (recover s))
    unfolding landed landed_at
    among g [] m f e = clash (sym m ∙ from_empty k callers (sym e))
    among g (c ∷ fs) m f e = at_end_lem (at_end c)
      where
        at_end_lem : (b : Bool) → StaysAt d callers g (landed_at b k s c fs (recover s))
        at_end_lem true = gone (recover_gone s fs (falling_tail d c fs f))
        at_end_lem false = gone f

    higher : (n : ℕ) (fs : List Context) → member k callers ≡ false → Above d callers fs → Falling n fs
        → StaysAt d callers (guarded callers (mark k ∷ s)) (landed k s cs fs (recover s))
    unfolding landed landed_at guarded
    higher n fs m (here c e) f = at_end_lem (at_end c)
      where
        at_end_lem : (b : Bool) → StaysAt d callers (guarded callers (mark k ∷ s)) (landed_at b k s c callers (recover s))
        at_end_lem true = gone (recover_gone s callers under)
        at_end_lem false = inside (here c e) refl
    higher n fs m (there c {cs = ds} a) f = at_end_lem (at_end c)
      where
        at_end_lem : (b : Bool) → StaysAt d callers (guarded callers (mark k ∷ s)) (landed_at b k s c ds (recover s))
        at_end_lem true = rw m (ih c.id ds a f.1)
        at_end_lem false = inside (there c a) refl

    recover_mark : (n : ℕ) → Above d callers cs → Falling n cs → StaysAt d callers (guarded callers (mark k ∷ s)) (landed k s cs (from k cs) (recover s))
    unfolding landed guarded
    recover_mark n a f = found (from_split k n cs a f)
      where
        caller : (b : Bool) → member k callers ≡ b → StaysAt d callers (guarded callers (mark k ∷ s)) (landed k s cs (from k callers) (recover s))
        caller true e = among _ (from k callers) e (from_keeps (Falling d) tt (falling_tail d) k callers under) refl
        caller false e = rw (from_none k callers e, e) (ih n cs a f)

        found : Split k (from k cs) → StaysAt d callers (guarded callers (mark k ∷ s)) (landed k s cs (from k cs) (recover s))
        found (high b q) = higher n (from k cs) q b (from_keeps (Falling n) tt (falling_tail n) k cs f)
        found (low e) = rw e (caller (member k callers) refl)

  pub recover_stays : (s : List Entry) (n : ℕ) (cs : List Context) → Above d callers cs → Falling n cs → StaysAt d callers (guarded callers s) (recover s cs)
  unfolding recover guarded
  recover_stays [] n cs a f = gone tt
  recover_stays (val v ∷ s) n cs a f = recover_stays s n cs a f
  recover_stays (mark k ∷ s) n cs a f = recover_mark k s cs (λ m ds. recover_stays s m ds) n a f

  pub leave_stays : (s : List Entry) (n : ℕ) (cs : List Context) → Above d callers cs → Falling n cs → StaysAt d callers (guarded callers s) (leave s cs)
  unfolding leave leave_at failing guarded
  leave_stays s n cs (here c e) f = pick (at_end c) c.owes (ltb (length s) most_entries)
    where
      left : (t : List Entry) → Falling d (leave t callers).contexts
      left t = leave_keeps (Falling d) tt (falling_tail d) t callers under

      pick : (a b r : Bool) → StaysAt d callers (guarded callers s) (leave_at a b r s c callers (λ t. leave t callers))
      pick false b r = inside (here c e) refl
      pick true false r = gone (left s)
      pick true true true = gone (left (val zero ∷ s))
      pick true true false = gone (recover_gone s callers under)
  leave_stays s n cs (there c {cs = ds} a) f = pick (at_end c) c.owes (ltb (length s) most_entries) (λ t. leave_stays t c.id ds a f.1)
    where
      pick : (a b r : Bool) → ((t : List Entry) → StaysAt d callers (guarded callers t) (leave t ds)) → StaysAt d callers (guarded callers s) (leave_at a b r s c ds (λ t. leave t ds))
      pick false b r ih = inside (there c a) refl
      pick true false r ih = ih s
      pick true true true ih = ih (val zero ∷ s)
      pick true true false ih = recover_stays s c.id ds a f.1

  pub skip_stays : (b : Bool) (s : List Entry) (n : ℕ) (c : Context) (cs : List Context) → Above d callers (c ∷ cs) → Falling n (c ∷ cs)
      → StaysAt d callers (guarded callers s) (skip_at b s c cs)
  unfolding skip_at
  skip_stays true s n c cs (here _ e) f = gone (recover_gone s callers under)
  skip_stays true s n c cs (there _ a) f = recover_stays s c.id cs a f.1
  skip_stays false s n c cs a f = inside a refl
