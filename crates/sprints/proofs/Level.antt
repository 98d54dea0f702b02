-- What MARK under no value and literals with a flat effect leave as it is, so that the new height of the stack tells the registers after
-- them. Assumes nothing.
use Rattle.std.specs.Prelude.{Option as Maybe, Some, None}
use Prim.Native.Nat.{ℕ, suc, ◌-◌, ◌≤◌, ◌<◌}
use native.Mathlib.Omega.{arith}
use mathlib.Core.Path.{◌≡◌, refl, sym, ap, ◌∙◌}
use mathlib.Core.Bool.{Bool, true, false}
use mathlib.Core.List.{List, [], ◌∷◌, ◌++◌}
use mathlib.Core.Option.{Option, none, some}
use borrow.Author.Tests.{leb-true}
use lib.ListN.{length, take, drop, length-drop}
use Rattle.table.specs.Slots.{slots}
use Rattle.machine.specs.declared.Value.{Value}
use Rattle.machine.specs.declared.Work.{Work}
use Rattle.machine.specs.declared.Work.TheVariants.{Nothing, Fetch, Element, Build, Spell, Utter, Compose, Repeat, Turn, Match, Report}
use Rattle.machine.specs.declared.Next.{Next}
use Rattle.machine.specs.declared.Next.TheVariants.{Works, Inline, Call, Store, Place, Remove, Tally}
use Rattle.machine.specs.declared.Effect.{Effect}
use Rattle.machine.specs.declared.Effect.TheVariants.{Gives, Gives2, Acts}
use Rattle.machine.specs.declared.Literal.{Literal}
use Rattle.machine.specs.State.{Entry, val, mark, Context, State, running}
use Rattle.machine.specs.Literal.{Code}
use Rattle.machine.specs.Operators.{popped}
use Rattle.machine.specs.Contexts.{beneath, over}
use Rattle.machine.specs.Engine.{limited, with_contexts, values, with_values, pops, push, provided, repeat, turn, worked, noted, store_in, store, place, remove_at, remove, tally_at, tally, does, affected}
use Rattle.machine.specs.Step.{effect_at, execute}
use Rattle.machine.proofs.Changes.{OnSome, limited_on, provided_on}
use Rattle.state.specs.declared.Registers.{Registers}
use Rattle.state.specs.Layout.{abs, Perhaps, Tried}
use Rattle.state.proofs.Parts.{length_contexts, length_values, length_stack}
use Rattle.state.proofs.Cutting.{over_above, over_drop}
use Rattle.state.proofs.Stacking.{above_few}
use Rattle.state.proofs.Ending.{not_on}
use Rattle.effects.proofs.Acting.{beneath_few}
use Rattle.sprints.specs.Swift.{height_in, marked, lifted, Stays, ahead, onto, Flat}
use Rattle.sprints.proofs.Flatness.{flat_work, flat_next, flat}
use Rattle.sprints.proofs.Ahead.{execute_free, mark_free}

-- ---- the stack from its topmost mark on down

beneath_over : (vs : List Value) (s : List Entry) → beneath (over vs s) ≡ beneath s
unfolding beneath over
beneath_over [] s = refl
beneath_over (v ∷ vs) s = beneath_over vs s

beneath_again : (s : List Entry) → beneath (beneath s) ≡ beneath s
unfolding beneath
beneath_again [] = refl
beneath_again (val v ∷ s) = beneath_again s
beneath_again (mark k ∷ s) = refl

-- ---- states

-- no mark stands at the height `top` of t or above, and t is otherwise as s, so far as the registers tell
record Level (top : ℕ) (s t : State) : Type 0 where
  contexts : length t.contexts ≡ length s.contexts
  cells : length t.cells ≡ length s.cells
  skipping : t.skipping ≡ s.skipping
  steps : t.steps ≡ s.steps
  errors : t.errors ≡ s.errors
  low : length (beneath t.stack) ≤ top
  here : (running t.contexts).origin ≡ (running s.contexts).origin
  ends : (running t.contexts).end ≡ (running s.contexts).end

-- marks stand no higher than in s
abbrev Keeps : State → State → Type 0
Keeps s t = Level (length (beneath s.stack)) s t

stored_here : (j : ℕ) (v : Value) (cs : List Context) → (running (store_in j v cs)).origin ≡ (running cs).origin
unfolding store_in running
stored_here j v [] = refl
stored_here j v (c ∷ cs) = refl

stored_ends : (j : ℕ) (v : Value) (cs : List Context) → (running (store_in j v cs)).end ≡ (running cs).end
unfolding store_in running
stored_ends j v [] = refl
stored_ends j v (c ∷ cs) = refl

stored_length : (j : ℕ) (v : Value) (cs : List Context) → length (store_in j v cs) ≡ length cs
unfolding store_in
stored_length j v [] = refl
stored_length j v (c ∷ cs) = refl

module _ (code : Code) (s : State) where
  level_same : OnSome (Keeps s) (limited s)
  level_same = limited_on (Keeps s) s (λ h. record { contexts = refl; cells = refl; skipping = refl; steps = refl; errors = refl; low = omega arith; here = refl; ends = refl })

  level_push : (v : Value) → OnSome (Keeps s) (push v s)
  unfolding push beneath
  level_push v = limited_on (Keeps s) _ (λ h. record { contexts = refl; cells = refl; skipping = refl; steps = refl; errors = refl; low = omega arith; here = refl; ends = refl })

  level_values : (vs : List Value) → OnSome (Keeps s) (limited (with_values vs s.cells s))
  level_values vs =
      let e : length (beneath (over vs (beneath s.stack))) ≡ length (beneath s.stack) = ap length (beneath_over vs (beneath s.stack) ∙ beneath_again s.stack) in
      limited_on (Keeps s) _ (λ h. record { contexts = refl; cells = refl; skipping = refl; steps = refl; errors = refl; low = omega (arith, e); here = refl; ends = refl })

  level_worked : (x : Work) → flat_work x ≡ true → OnSome (Keeps s) (worked code x s)
  unfolding worked repeat turn
  level_worked Nothing f = level_same
  level_worked (Fetch j) f = level_push _
  level_worked (Element cell) f = level_push _
  level_worked (Build lower n) f = not_on f
  level_worked (Spell start) f = not_on f
  level_worked (Utter start len) f = level_push _
  level_worked (Compose start len) f = not_on f
  level_worked (Repeat n) f = provided_on _ _ _ (λ _. level_values (take n (values s) ++ values s))
  level_worked (Turn n m) f = let vs = values s in provided_on _ _ _ (λ _. level_values (drop (n - m) (take n vs) ++ (take (n - m) vs ++ drop n vs)))
  level_worked (Match v u) f = level_push _
  level_worked (Report v) f = provided_on _ _ _ (λ _. level_same)

  level_stored : (j : ℕ) (v : Value) → OnSome (Keeps s) (limited (noted (with_contexts (store_in j v s.contexts) (pops 1 s))))
  unfolding noted pops
  level_stored j v =
      let vs = drop 1 (values s) in
      let e : length (beneath (over vs (beneath s.stack))) ≡ length (beneath s.stack) = ap length (beneath_over vs (beneath s.stack) ∙ beneath_again s.stack) in
      limited_on (Keeps s) _ (λ h. record { contexts = stored_length j v s.contexts; cells = refl; skipping = refl; steps = refl; errors = refl; low = omega (arith, e); here = stored_here j v s.contexts; ends = stored_ends j v s.contexts })

  level_removed : (id n : ℕ) (vs : List Value) (t : List Entry) → beneath s.stack ≡ t → OnSome (Keeps s) (remove_at id n vs t s)
  unfolding remove_at
  level_removed id n vs [] e = tt
  level_removed id n vs (val v ∷ t) e = tt
  level_removed id n vs (mark k ∷ t) e =
      let a : length (beneath s.stack) ≡ suc (length t) = ap length e in
      let b : length (beneath (over vs t)) ≡ length (beneath t) = ap length (beneath_over vs t) in
      provided_on _ _ _ (λ _. limited_on (Keeps s) _ (λ h. record { contexts = refl; cells = refl; skipping = refl; steps = refl; errors = refl; low = omega (arith, a, b, beneath_few t); here = refl; ends = refl }))

  level_tallied : (id n : ℕ) (t : List Entry) → OnSome (Keeps s) (tally_at id n t s)
  unfolding tally_at
  level_tallied id n [] = tt
  level_tallied id n (val v ∷ t) = tt
  level_tallied id n (mark k ∷ t) = provided_on _ _ _ (λ _. level_push _)

  level_does : (x : Next) → flat_next x ≡ true → OnSome (Keeps s) (does code x s)
  unfolding does store remove tally
  level_does (Works x) f = level_worked x f
  level_does (Inline start len owes) f = not_on f
  level_does (Call origin start len first) f = not_on f
  level_does (Store j) f = provided_on _ _ _ (λ _. level_stored j _)
  level_does (Place n) f = not_on f
  level_does (Remove n) f = level_removed _ n _ _ refl
  level_does Tally f = level_tallied _ _ _

  level_affected : (e : Maybe Effect) → flat e ≡ true → OnSome (Keeps s) (affected code e s)
  unfolding affected push beneath
  level_affected None f = not_on f
  level_affected (Some (Gives a)) f = level_push _
  level_affected (Some (Gives2 a b)) f = limited_on (Keeps s) _ (λ h. record { contexts = refl; cells = refl; skipping = refl; steps = refl; errors = refl; low = omega arith; here = refl; ends = refl })
  level_affected (Some (Acts x)) f = level_does x f

-- values popped before
level_popped : (n : ℕ) (s : State) (o : Option State) → OnSome (Keeps (pops n s)) o → OnSome (Keeps s) o
unfolding pops
level_popped n s none h = tt
level_popped n s (some t) h =
    let e : length (beneath (over (drop n (values s)) (beneath s.stack))) ≡ length (beneath s.stack) = ap length (beneath_over (drop n (values s)) (beneath s.stack) ∙ beneath_again s.stack) in
    record { contexts = h.contexts; cells = h.cells; skipping = h.skipping; steps = h.steps; errors = h.errors; low = omega (arith, e, h.low); here = h.here; ends = h.ends }

level_execute : (code : Code) (x : Literal) (s : State) → flat (effect_at x s) ≡ true → OnSome (Keeps s) (execute code x s)
unfolding execute
level_execute code x s f = provided_on _ _ _ (λ _. level_popped (popped x) s (affected code (effect_at x s) (pops (popped x) s)) (level_affected code (pops (popped x) s) (effect_at x s) f))

-- MARK under no value: the mark stands where the cardinal stood
module _ (code : Code) (top : ℕ) where
  level_placed : (s : State) → suc (length s.stack) ≤ top → OnSome (Level top s) (place 0 s)
  unfolding place over beneath
  level_placed s h =
      let e : length (over (values s) (beneath s.stack)) ≡ length s.stack = ap length (over_above s.stack) in
      provided_on _ _ _ (λ _. limited_on (Level top s) _ (λ _. record { contexts = refl; cells = refl; skipping = refl; steps = refl; errors = refl; low = omega (arith, e, h); here = refl; ends = refl }))

  level_marked : (s : State) (e : Maybe Effect) → e ≡ Some (Acts (Place 0)) → suc (length s.stack) ≤ top → OnSome (Level top s) (affected code e s)
  unfolding affected does
  level_marked s e i h = rw i (level_placed s h)

  below_popped : (s : State) (o : Option State) → OnSome (Level top (pops 1 s)) o → OnSome (Level top s) o
  unfolding pops
  below_popped s none h = tt
  below_popped s (some t) h = record { contexts = h.contexts; cells = h.cells; skipping = h.skipping; steps = h.steps; errors = h.errors; low = h.low; here = h.here; ends = h.ends }

  level_mark : (x : Literal) (s : State) → popped x ≡ 1 → effect_at x s ≡ Some (Acts (Place 0)) → length s.stack ≤ top → OnSome (Level top s) (execute code x s)
  unfolding execute pops
  level_mark x s one e h =
      rw one
      (provided_on _ _ _
      (λ b.
      let k = leb-true 1 (length (values s)) b in
      let l : length (over (drop 1 (values s)) (beneath s.stack)) ≡ length s.stack - 1 = ap length (over_drop s.stack 1 k) ∙ length-drop 1 s.stack in
      below_popped s (affected code (effect_at x s) (pops 1 s)) (level_marked (pops 1 s) (effect_at x s) e (omega (arith, l, k, h, above_few s.stack)))))

-- ---- the registers

registers_path : {p : Registers} (r : Registers) (h : ℕ) → p.height ≡ h → p.depth ≡ r.depth → p.used ≡ r.used → p.steps ≡ r.steps → p.errors ≡ r.errors → p.skipping ≡ r.skipping → p ≡ lifted r h
registers_path r h a b c d e f = λ i. record { height = a i; depth = b i; used = c i; steps = d i; errors = e i; skipping = f i }

level_of : {top : ℕ} {s t : State} (o : Option State) → OnSome (Level top s) o → o ≡ some t → Level top s t
level_of o h e = rw e at h

pub stays_none : {top : ℕ} {w w' : List ℕ} {r : Registers} (h : ℕ) → 128 < h → Stays top w r w' h
stays_none h more = record { low = λ k. absurd (omega arith); here = λ k. absurd (omega arith); ends = λ k. absurd (omega arith); keeps = λ k. absurd (omega arith) }

-- a literal that does the same wherever its body goes on, and leaves the registers as they are, but for the height
module _ {top : ℕ} {w w' : List ℕ} {r : Registers} (code : Code) (x : Literal) (level : OnSome (Level top (abs w r)) (execute code x (abs w r)))
    (free : (p n : ℕ) → execute code x (ahead p n (abs w r)) ≡ onto p n (execute code x (abs w r))) where
  made_flat : (h : ℕ) → h ≤ 128 → Tried (execute code x) w r w' (Some (lifted r h)) → Flat top (execute code x) w r w' h
  made_flat h few t =
      let l = level_of (execute code x (abs w r)) level (sym t.does) in
      record { made = λ _. t; stays = record { low = λ _. l.low; here = λ _. l.here; ends = λ _. l.ends; keeps = λ _. t.keeps }; back = λ b. absurd (omega arith); free = λ _. free; fails = λ z. absurd (omega arith) }

  by_height : (h : ℕ) (p : Perhaps) → h ≡ height_in p → Tried (execute code x) w r w' p → Flat top (execute code x) w r w' h
  unfolding onto
  by_height h (Some p) a t =
      let l = level_of (execute code x (abs w r)) level (sym t.does) in
      let deep : p.depth ≡ r.depth = sym (length_contexts (slots w') p.depth) ∙ l.contexts ∙ length_contexts (slots w) r.depth in
      let used : p.used ≡ r.used = sym (length_values (slots w') 728 p.used) ∙ l.cells ∙ length_values (slots w) 728 r.used in
      let e : p ≡ lifted r h = registers_path r h (sym a) deep used l.steps l.errors l.skipping in
      made_flat h (omega (arith, a, t.busy.stack_fits)) (rw e at t)
  by_height h None a t =
      let d : none ≡ execute code x (abs w r) = t.does in
      record {
        made = λ b. absurd (omega (arith, a));
        stays = stays_none h (omega (arith, a));
        back = λ b. t.back refl;
        free = λ b. absurd (omega (arith, a));
        fails = λ _ q n. free q n ∙ (rw (← d));
      }

module _ {w w' : List ℕ} {r : Registers} (code : Code) (x : Literal) (f : flat (effect_at x (abs w r)) ≡ true) where
  -- a height that is one
  pub flat_made : (h : ℕ) → h ≤ 128 → Tried (execute code x) w r w' (Some (lifted r h)) → Flat (marked w r.height) (execute code x) w r w' h
  flat_made h few t = made_flat code x (level_execute code x (abs w r) f) (λ p n. execute_free code p n x (abs w r) f) h few t

  -- the height that an operation answers
  pub flat_of : (h : ℕ) (p : Perhaps) → h ≡ height_in p → Tried (execute code x) w r w' p → Flat (marked w r.height) (execute code x) w r w' h
  flat_of h p a t = by_height code x (level_execute code x (abs w r) f) (λ q n. execute_free code q n x (abs w r) f) h p a t

-- the same of MARK under no value
pub flat_mark : {top : ℕ} {w w' : List ℕ} {r : Registers} (code : Code) (x : Literal) → popped x ≡ 1 → effect_at x (abs w r) ≡ Some (Acts (Place 0)) → r.height ≤ top → (h : ℕ) (p : Perhaps)
    → h ≡ height_in p → Tried (execute code x) w r w' p → Flat top (execute code x) w r w' h
flat_mark {top} {w} {w'} {r} code x one e l h p a t =
    by_height code x (level_mark code top x (abs w r) one e (omega (arith, l, length_stack (slots w) r.height))) (λ q n. mark_free code q n 0 x (abs w r) e) h p a t

-- marks may stand higher
pub stays_higher : {top more : ℕ} {w w' : List ℕ} {r : Registers} {h : ℕ} → top ≤ more → Stays top w r w' h → Stays more w r w' h
stays_higher l s = record { low = λ k. omega (arith, l, s.low k); here = s.here; ends = s.ends; keeps = s.keeps }

pub flat_higher : {top more : ℕ} {f : State → Option State} {w w' : List ℕ} {r : Registers} {h : ℕ} → top ≤ more → Flat top f w r w' h → Flat more f w r w' h
flat_higher l d = record { made = d.made; stays = stays_higher l d.stays; back = d.back; free = d.free; fails = d.fails }

-- nothing done
pub flat_undone : {top : ℕ} {f : State → Option State} {w : List ℕ} {r : Registers} (h : ℕ) → h ≡ 129 → Flat top f w r w h
flat_undone h z = record { made = λ b. absurd (omega arith); stays = stays_none h (omega arith); back = λ b. refl; free = λ b. absurd (omega arith); fails = λ b. absurd (omega arith) }

-- an effect that fails
provided_none : (b : Bool) → provided b none ≡ none
unfolding provided
provided_none true = refl
provided_none false = refl

execute_none : (code : Code) (x : Literal) (s : State) → None ≡ effect_at x s → execute code x s ≡ none
unfolding execute affected
execute_none code x s e = rw (← e) (provided_none _)

pub flat_fails : {top : ℕ} {w : List ℕ} {r : Registers} (code : Code) (x : Literal) → None ≡ effect_at x (abs w r) → Flat top (execute code x) w r w 130
unfolding effect_at
flat_fails {w = w} {r = r} code x e =
    record { made = λ b. absurd (omega arith); stays = stays_none 130 (omega arith); back = λ b. refl; free = λ b. absurd (omega arith); fails = λ _ p n. execute_none code x (ahead p n (abs w r)) e }
