-- A literal that makes no cells and enters no body does the same wherever its body goes on and however many steps are counted. In order:
-- contexts moved; effects; a step; what the table says. Assumes nothing.
use Rattle.std.specs.Prelude.{Option as Maybe, Some, None}
use Prim.Native.Nat.{ℕ, suc, ◌<◌}
use mathlib.Core.Path.{◌≡◌, refl, sym, ap, ◌∙◌}
use mathlib.Core.Bool.{Bool, true, false, cond, not, ◌&&◌}
use mathlib.Core.List.{List, [], ◌∷◌}
use mathlib.Core.Option.{Option, none, some}
use borrow.Author.Tests.{lt-leb}
use lib.ListN.{length}
use Rattle.machine.specs.declared.Value.{Value}
use Rattle.machine.specs.declared.Value.TheVariants.{Number}
use Rattle.machine.specs.declared.Work.{Work}
use Rattle.machine.specs.declared.Work.TheVariants.{Nothing, Fetch, Element, Build, Spell, Utter, Compose, Repeat, Turn, Match, Report}
use Rattle.machine.specs.declared.Next.{Next}
use Rattle.machine.specs.declared.Next.TheVariants.{Works, Inline, Call, Store, Place, Remove, Tally}
use Rattle.machine.specs.declared.Effect.{Effect}
use Rattle.machine.specs.declared.Effect.TheVariants.{Gives, Gives2, Acts}
use Rattle.machine.specs.declared.Literal.{Literal}
use Rattle.machine.specs.State.{Entry, val, mark, Context, State, running}
use Rattle.machine.specs.Literal.{Code, bytes_of, Found, found_at}
use Rattle.machine.specs.Operators.{popped}
use Rattle.machine.specs.Contexts.{at_end, leave_at, leave, settle}
use Rattle.machine.specs.Engine.{fits, limited, provided, with_stack, with_contexts, pops, push, repeat, turn, worked, last_frame, noted, store_in, store, place, remove_at, remove, tally_at, tally, does, affected}
use Rattle.machine.specs.Step.{effect_at, execute, executed, is_unmark0, literal_step, begun_in, begun, ended, step_by, due_in, step}
use Rattle.state.proofs.Ending.{not_on}
use Rattle.sprints.specs.Swift.{moved_to, ahead, onto}
use Rattle.sprints.proofs.Flatness.{flat_work, flat_next, flat}

-- ---- contexts moved

module _ (p : ℕ) where
  moved_origin : (cs : List Context) → (running (moved_to p cs)).origin ≡ (running cs).origin
  unfolding moved_to running
  moved_origin [] = refl
  moved_origin (c ∷ cs) = refl

  moved_id : (cs : List Context) → (running (moved_to p cs)).id ≡ (running cs).id
  unfolding moved_to running
  moved_id [] = refl
  moved_id (c ∷ cs) = refl

  moved_frame : (cs : List Context) → (running (moved_to p cs)).frame ≡ (running cs).frame
  unfolding moved_to running
  moved_frame [] = refl
  moved_frame (c ∷ cs) = refl

  moved_length : (cs : List Context) → length (moved_to p cs) ≡ length cs
  unfolding moved_to
  moved_length [] = refl
  moved_length (c ∷ cs) = refl

  moved_stored : (j : ℕ) (v : Value) (cs : List Context) → store_in j v (moved_to p cs) ≡ moved_to p (store_in j v cs)
  unfolding moved_to store_in
  moved_stored j v [] = refl
  moved_stored j v (c ∷ cs) = refl

  moved_last : (f : List Value) (cs : List Context) → last_frame f (moved_to p cs) ≡ last_frame f cs
  unfolding moved_to last_frame
  moved_last f [] = refl
  moved_last f (c ∷ cs) = refl

-- to where it is
pub moved_same : (cs : List Context) (p : ℕ) → p ≡ (running cs).at → moved_to p cs ≡ cs
unfolding moved_to running
moved_same [] p e = refl
moved_same (c ∷ cs) p e = rw e

-- ---- effects

module _ (code : Code) (p n : ℕ) where
  some_onto : (b : Bool) (s : State) → cond b (some (ahead p n s)) none ≡ onto p n (cond b (some s) none)
  unfolding onto
  some_onto true s = refl
  some_onto false s = refl

  fits_free : (s : State) → fits (ahead p n s) ≡ fits s
  unfolding fits
  fits_free s = rw (moved_length p s.contexts)

  limited_free : (s : State) → limited (ahead p n s) ≡ onto p n (limited s)
  unfolding limited
  limited_free s = rw (fits_free s) (some_onto (fits s) s)

  provided_free : (b : Bool) (o o' : Option State) → o' ≡ onto p n o → provided b o' ≡ onto p n (provided b o)
  unfolding provided onto
  provided_free true o o' e = e
  provided_free false o o' e = refl

  push_free : (v : Value) (s : State) → push v (ahead p n s) ≡ onto p n (push v s)
  unfolding push
  push_free v s = limited_free (with_stack (val v ∷ s.stack) s)

  worked_free : (x : Work) → flat_work x ≡ true → (s : State) → worked code x (ahead p n s) ≡ onto p n (worked code x s)
  unfolding worked repeat turn
  worked_free Nothing f s = limited_free s
  worked_free (Fetch j) f s = rw (moved_frame p s.contexts) (push_free _ s)
  worked_free (Element cell) f s = push_free _ s
  worked_free (Build lower k) f s = not_on f
  worked_free (Spell start) f s = not_on f
  worked_free (Utter start len) f s = rw (moved_origin p s.contexts) (push_free _ s)
  worked_free (Compose start len) f s = not_on f
  worked_free (Repeat k) f s = provided_free _ _ _ (limited_free _)
  worked_free (Turn k m) f s = provided_free _ _ _ (limited_free _)
  worked_free (Match v u) f s = push_free _ s
  worked_free (Report v) f s = provided_free _ _ _ (limited_free s)

  stored_free : (j : ℕ) (v : Value) (s : State) → limited (noted (with_contexts (store_in j v (moved_to p s.contexts)) (pops 1 (ahead p n s)))) ≡ onto p n (limited (noted (with_contexts (store_in j v s.contexts) (pops 1 s))))
  unfolding noted pops
  stored_free j v s = rw (moved_stored p j v s.contexts, moved_last p s.frame (store_in j v s.contexts)) (limited_free (noted (with_contexts (store_in j v s.contexts) (pops 1 s))))

  removed_free : (id k : ℕ) (vs : List Value) (t : List Entry) (s : State) → remove_at id k vs t (ahead p n s) ≡ onto p n (remove_at id k vs t s)
  unfolding remove_at onto
  removed_free id k vs [] s = refl
  removed_free id k vs (val v ∷ t) s = refl
  removed_free id k vs (mark m ∷ t) s = provided_free _ _ _ (limited_free _)

  tallied_free : (id k : ℕ) (t : List Entry) (s : State) → tally_at id k t (ahead p n s) ≡ onto p n (tally_at id k t s)
  unfolding tally_at onto
  tallied_free id k [] s = refl
  tallied_free id k (val v ∷ t) s = refl
  tallied_free id k (mark m ∷ t) s = provided_free _ _ _ (push_free _ s)

  placed_free : (k : ℕ) (s : State) → place k (ahead p n s) ≡ onto p n (place k s)
  unfolding place
  placed_free k s = rw (moved_id p s.contexts) (provided_free _ _ _ (limited_free _))

  does_free : (x : Next) → flat_next x ≡ true → (s : State) → does code x (ahead p n s) ≡ onto p n (does code x s)
  unfolding does store remove tally
  does_free (Works x) f s = worked_free x f s
  does_free (Inline start len owes) f s = not_on f
  does_free (Call origin start len first) f s = not_on f
  does_free (Store j) f s = provided_free _ _ _ (stored_free j _ s)
  does_free (Place k) f s = not_on f
  does_free (Remove k) f s = rw (moved_id p s.contexts) (removed_free _ k _ _ s)
  does_free Tally f s = rw (moved_id p s.contexts) (tallied_free _ _ _ s)

  affected_free : (e : Maybe Effect) → flat e ≡ true → (s : State) → affected code e (ahead p n s) ≡ onto p n (affected code e s)
  unfolding affected
  affected_free None f s = not_on f
  affected_free (Some (Gives a)) f s = push_free _ s
  affected_free (Some (Gives2 a b)) f s = push_free _ (with_stack (val (Number a) ∷ s.stack) s)
  affected_free (Some (Acts x)) f s = does_free x f s

  pub execute_free : (x : Literal) (s : State) → flat (effect_at x s) ≡ true → execute code x (ahead p n s) ≡ onto p n (execute code x s)
  unfolding execute effect_at pops
  execute_free x s f = provided_free _ _ _ (affected_free (effect_at x s) f (pops (popped x) s))

  marked_free : (k : ℕ) (e : Maybe Effect) → e ≡ Some (Acts (Place k)) → (s : State) → affected code e (ahead p n s) ≡ onto p n (affected code e s)
  unfolding affected does
  marked_free k e i s = rw i (placed_free k s)

  -- a mark placed
  pub mark_free : (k : ℕ) (x : Literal) (s : State) → effect_at x s ≡ Some (Acts (Place k)) → execute code x (ahead p n s) ≡ onto p n (execute code x s)
  unfolding execute effect_at pops
  mark_free k x s e = provided_free _ _ _ (marked_free k (effect_at x s) e (pops (popped x) s))

-- ---- a step

literal_on : (code : Code) (b : Bool) → b ≡ false → (x : Literal) (s : State) → literal_step code (b && not (is_unmark0 x)) x s ≡ executed s (execute code x s)
unfolding literal_step
literal_on code true e x s = not_on (sym e)
literal_on code false e x s = refl

module _ (s : State) (c : Context) (cs : List Context) (e : s.contexts ≡ c ∷ cs) where
  begun_ahead : (p n m : ℕ) → begun m (ahead p n s) ≡ ahead m (suc n) s
  unfolding begun begun_in moved_to
  begun_ahead p n m = rw e

  pub begun_is : (m : ℕ) → begun m s ≡ ahead m (suc s.steps) s
  unfolding begun begun_in moved_to
  begun_is m = rw e

  pub ended_ahead : (p n : ℕ) → ended (ahead p n s).contexts ≡ false
  unfolding ended moved_to
  ended_ahead p n = rw e

  -- a body that goes on
  pub settle_ahead : (p n : ℕ) → s.skipping ≡ false → p < (running s.contexts).end → settle (ahead p n s) ≡ ahead p n s
  unfolding settle leave leave_at at_end moved_to running
  settle_ahead p n on h =
      let l : p < c.end = rw e at h in
      rw (e, lt-leb c.end p l, on)

  -- the literal x, which is due at p and after which the body goes on at m
  module _ (code : Code) (b : List ℕ) (p n m : ℕ) (x : Literal) (eb : b ≡ bytes_of code (running s.contexts).origin) (found : found_at b p ≡ record { literal = x; next = m }) (on : s.skipping ≡ false) where
    due_is : due_in code (ahead p n s) ≡ record { literal = x; next = m }
    unfolding due_in running moved_to
    due_is =
        let g : b ≡ bytes_of code c.origin = rw e at eb in
        rw (e, ← g) found

    pub due_ahead : step code (ahead p n s) ≡ executed (ahead m (suc n) s) (execute code x (ahead m (suc n) s))
    unfolding step step_by
    due_ahead = ap (λ (f : Found). step_by code f (ahead p n s)) due_is ∙ literal_on code s.skipping on x (begun m (ahead p n s)) ∙ ap (λ (u : State). executed u (execute code x u)) (begun_ahead p n m)

    pub step_ahead : (t : State) → execute code x (ahead m (suc n) s) ≡ onto m (suc n) (execute code x s) → execute code x s ≡ some t → step code (ahead p n s) ≡ settle (ahead m (suc n) t)
    unfolding executed onto
    step_ahead t f d = due_ahead ∙ (rw (f, d))
