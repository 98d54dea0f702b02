-- What one executed literal can change, whatever the operator: other values above the topmost mark and other cells; the running
-- frame; a mark; a context entered. And every result is within the limits. Assumes nothing.
use Rattle.std.specs.Prelude.{Option as Maybe, Some, None}
use Prim.Native.Nat.{ℕ, ◌+◌, ◌-◌, ◌≤◌}
use native.Mathlib.Omega.{arith}
use mathlib.Core.Path.{◌≡◌, refl}
use mathlib.Core.Bool.{Bool, true, false, cond, ◌&&◌}
use mathlib.Core.List.{List, [], ◌∷◌, ◌++◌}
use mathlib.Core.Option.{Option, none, some}
use lib.Dec.{eqb, leb}
use lib.ListN.{length, take, drop, length-take, length-drop}
use borrow.Author.Tests.{eqb-true, leb-true}
use Rattle.machine.specs.declared.Value.{Value}
use Rattle.machine.specs.declared.Value.TheVariants.{Number}
use Rattle.machine.specs.declared.Work.{Work}
use Rattle.machine.specs.declared.Work.TheVariants.{Nothing, Fetch, Element, Build, Spell, Utter, Compose, Repeat, Turn, Match, Report}
use Rattle.machine.specs.declared.Next.{Next}
use Rattle.machine.specs.declared.Next.TheVariants.{Works, Inline, Call, Store, Place, Remove, Tally}
use Rattle.machine.specs.declared.Effect.{Effect}
use Rattle.machine.specs.declared.Effect.TheVariants.{Gives, Gives2, Acts}
use Rattle.machine.specs.Limits.{frame_size, most_entries, most_contexts, most_cells}
use Rattle.machine.specs.State.{Entry, val, mark, Context, State, running}
use Rattle.machine.specs.Literal.{Code}
use Rattle.machine.specs.Contexts.{beneath, over}
use Rattle.machine.specs.Engine.{fits, limited, provided, with_stack, with_contexts, values, with_values, pops, push, charge, build, spell, compose, repeat, turn, worked, noted, store_in, store, place, remove_at, remove, tally_at, tally, context_of, enter, inline, kept, call, does, affected}
use Rattle.numbers.proofs.Cond.{both}

-- P of what a literal leads to, where it does not fail
abbrev pub OnSome : {A : Type 0} → (A → Type 0) → Option A → Type 0
OnSome P none = Unit
OnSome P (some a) = P a

pub record Within (s : State) : Type 0 where
  pub entries : length s.stack ≤ most_entries
  pub contexts_are : length s.contexts ≤ most_contexts
  pub cells_are : length s.cells ≤ most_cells

pub limited_on : (P : State → Type 0) (s : State) → (Within s → P s) → OnSome P (limited s)
unfolding limited fits
limited_on P s h = pick (leb (length s.stack) most_entries) refl (leb (length s.contexts) most_contexts) refl (leb (length s.cells) most_cells) refl
  where
    pick : (a : Bool) → leb (length s.stack) most_entries ≡ a → (b : Bool) → leb (length s.contexts) most_contexts ≡ b → (d : Bool) → leb (length s.cells) most_cells ≡ d
        → OnSome P (cond (a && (b && d)) (some s) none)
    pick true p true q true u = h (record { entries = leb-true _ _ p; contexts_are = leb-true _ _ q; cells_are = leb-true _ _ u })
    pick true p true q false u = tt
    pick true p false q d u = tt
    pick false p b q d u = tt

pub provided_on : (P : State → Type 0) (b : Bool) (o : Option State) → (b ≡ true → OnSome P o) → OnSome P (provided b o)
unfolding provided
provided_on P true o h = h refl
provided_on P false o h = tt

-- from s, of which a literal's values have been popped, to another state
pub data Change (s : State) : State → Type 0 where
  pushes : (vs : List Value) → Change s (with_stack (over vs s.stack) s)
  changes : (vs cells : List Value) → Change s (with_values vs cells s)
  stores : (j : ℕ) (v : Value) → Change s (noted (with_contexts (store_in j v s.contexts) (pops 1 s)))
  places : (vs ws : List Value) → Change s (with_stack (over vs (mark (running s.contexts).id ∷ over ws (beneath s.stack))) s)
  removes : (vs : List Value) (k : ℕ) (t : List Entry) → beneath s.stack ≡ mark k ∷ t → k ≡ (running s.contexts).id → Change s (with_stack (over vs t) s)
  enters : (c : Context) → c.id ≡ s.steps → (length (running s.contexts).frame ≡ frame_size → length c.frame ≡ frame_size) → Change s (with_contexts (c ∷ s.contexts) s)

-- a change to a state within the limits
abbrev pub Changed : State → State → Type 0
Changed s u = Change s u × Within u

module _ (code : Code) (s : State) where
  limited_changed : (u : State) → Change s u → OnSome (Changed s) (limited u)
  limited_changed u h = limited_on (Changed s) u (λ w. (h, w))

  push_changed : (v : Value) → OnSome (Changed s) (push v s)
  unfolding push over
  push_changed v = limited_changed _ (pushes (v ∷ []))

  charge_changed : (new : List Value) (n : ℕ) (v : Value) → OnSome (Changed s) (charge new n v s)
  unfolding charge
  charge_changed new n v = limited_changed _ (changes _ _)

  worked_changed : (w : Work) → OnSome (Changed s) (worked code w s)
  unfolding worked build spell compose repeat turn over
  worked_changed Nothing = limited_changed s (pushes [])
  worked_changed (Fetch j) = push_changed _
  worked_changed (Element cell) = push_changed _
  worked_changed (Build lower n) = provided_on _ _ _ (λ _. charge_changed _ _ _)
  worked_changed (Spell start) = charge_changed _ _ _
  worked_changed (Utter start len) = push_changed _
  worked_changed (Compose start len) = charge_changed _ _ _
  worked_changed (Repeat n) = provided_on _ _ _ (λ _. limited_changed _ (changes (take n (values s) ++ values s) s.cells))
  worked_changed (Turn n m) =
      let vs = values s in
      provided_on _ _ _ (λ _. limited_changed _ (changes (drop (n - m) (take n vs) ++ (take (n - m) vs ++ drop n vs)) s.cells))
  worked_changed (Match v w) = push_changed _
  worked_changed (Report v) = provided_on _ _ _ (λ _. limited_changed s (pushes []))

  removed_changed : (n : ℕ) (vs : List Value) (t : List Entry) → beneath s.stack ≡ t → OnSome (Changed s) (remove_at (running s.contexts).id n vs t s)
  unfolding remove_at
  removed_changed n vs [] e = tt
  removed_changed n vs (val v ∷ t) e = tt
  removed_changed n vs (mark k ∷ t) e =
      let own : ℕ = (running s.contexts).id in
      provided_on _ _ _ (λ h. limited_changed _ (removes vs k t e (eqb-true k own (both (eqb k own) (eqb n (length vs)) h).0)))

  tallied_changed : (id n : ℕ) (t : List Entry) → OnSome (Changed s) (tally_at id n t s)
  unfolding tally_at
  tallied_changed id n [] = tt
  tallied_changed id n (val v ∷ t) = tt
  tallied_changed id n (mark k ∷ t) = provided_on _ _ _ (λ _. push_changed _)

  -- a kept frame is whole
  kept_frame : (origin start len first : ℕ) → kept code origin start len first s.cells ≡ true → length (take frame_size (drop first s.cells)) ≡ frame_size
  unfolding kept
  kept_frame origin start len first h =
      simp (length-take, length-drop) (omega (arith, leb-true (first + frame_size) (length s.cells) (both (leb (first + frame_size) (length s.cells)) _ h).0))

  does_changed : (x : Next) → OnSome (Changed s) (does code x s)
  unfolding does inline call store place remove tally enter context_of
  does_changed (Works w) = worked_changed w
  does_changed (Inline start len owes) = limited_changed _ (enters _ refl (λ h. h))
  does_changed (Call origin start len first) = provided_on _ _ _ (λ h. limited_changed _ (enters _ refl (λ _. kept_frame origin start len first h)))
  does_changed (Store j) = provided_on _ _ _ (λ _. limited_changed _ (stores j _))
  does_changed (Place n) = provided_on _ _ _ (λ _. limited_changed _ (places _ _))
  does_changed (Remove n) = removed_changed n _ _ refl
  does_changed Tally = tallied_changed _ _ _

  pub affected_changed : (e : Maybe Effect) → OnSome (Changed s) (affected code e s)
  unfolding affected push over
  affected_changed None = tt
  affected_changed (Some (Gives a)) = push_changed _
  affected_changed (Some (Gives2 a b)) = limited_changed _ (pushes (Number b ∷ Number a ∷ []))
  affected_changed (Some (Acts x)) = does_changed x
