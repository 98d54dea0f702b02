-- MARK, UNMARK and COUNT. Assumes nothing.
use mathlib.Core.Path.{◌≡◌, refl, ap, ap₂, sym, ◌∙◌}
use mathlib.Core.Bool.{Bool, true, false, ◌&&◌}
use mathlib.Core.Logic.{inl, inr}
use mathlib.Core.List.{List, [], ◌∷◌, ◌++◌}
use mathlib.Core.Option.{Option, none}
use Prim.Native.Nat.{ℕ, zero, suc, ◌+◌, ◌-◌, ◌≤◌, ◌<◌}
use native.Mathlib.Decide.{ℕ_discrete}
use native.Mathlib.Omega.{arith}
use borrow.Author.Tests.{eq-eqb, ne_eqb, leb-false, le-leb}
use lib.Dec.{eqb, leb}
use lib.ListN.{length, get_or, set, take, drop, length-set, length-append}
use mir.Syntax.{w32}
use mir.Facts.{to_z_pos}
use Rattle.std.specs.Prelude.{Some, None}
use Rattle.table.specs.declared.Slot.{Slot}
use Rattle.table.specs.Slots.{nil, mk, slots, desc, copied}
use Rattle.table.proofs.Moves.{Same, same_set, same_copied, same_then, length_copied}
use Rattle.machine.specs.declared.Value.{Value}
use Rattle.machine.specs.State.{Entry, val, mark, State, running}
use Rattle.machine.specs.Contexts.{above, beneath, over}
use Rattle.machine.specs.Operand.{natural}
use Rattle.machine.specs.Engine.{limited, provided, with_stack, push, place, remove_at, remove, tally_at, tally}
use Rattle.state.specs.declared.Registers.{Registers}
use Rattle.state.specs.Layout.{value_in, entry_in, stack_of, context_in, contexts_of, abs, Busy, Perhaps, Tried}
use lib.ListN.{drop_of_length-le}
use Rattle.state.specs.Operations.{mark_put}
use Rattle.state.proofs.Parts.{wide, room_of_lem, stack_same, stack_at, stack_more, contexts_at, length_stack}
use Rattle.state.proofs.Cutting.{over_take, over_drop, over_all, beneath_drop, entries_at, entries_same, length_entries, stack_taken, stack_dropped, stack_joined, entries_moved}
use Rattle.state.proofs.Trying.{trying, tried_no, tried_as, full_stack, stack_made}
use Rattle.state.proofs.Stacking.{above_few, enough, few}

-- ---- a mark put

pub mark_same : (m : List Slot) (a n id : ℕ) → a + n < 128 → Same (mark_put m a n id) m 128 1814
unfolding mark_put
mark_same m a n id h =
    let m₁ = copied m a 1814 n in
    let m₂ = set m₁ a (mk 5 id 0 0 0) in
    same_then (mark_put m a n id) m₂ m 128 1814 (same_copied m₂ 1814 (a + 1) n 128 1814 (inl (omega arith)))
    (same_then m₂ m₁ m 128 1814 (same_set m₁ a (mk 5 id 0 0 0) 128 1814 (inl (omega arith))) (same_copied m a 1814 n 128 1814 (inr (omega arith))))

mark_entry : (id : ℕ) → entry_in (mk 5 id 0 0 0) ≡ mark id
unfolding entry_in
mark_entry id = refl

pub mark_stack : (m : List Slot) (a n id : ℕ) → a + n < 128 → 2400 ≤ length m → stack_of (mark_put m a n id) ((a + 1) + n) ≡ entries_at m a n ++ (mark id ∷ stack_of m a)
unfolding mark_put
mark_stack m a n id h room =
    let k = mk 5 id 0 0 0 in
    let m₁ = copied m a 1814 n in
    let m₂ = set m₁ a k in
    let m₃ = copied m₂ 1814 (a + 1) n in
    let l₁ = length_copied m a 1814 n in
    let l₂ : length m₂ ≡ length m = rw length-set l₁ in
    stack_joined m₃ (a + 1) n ∙
    ap₂ ◌++◌
    (entries_moved m₂ 1814 (a + 1) n (omega arith) (inr (omega arith)) ∙
    entries_same m₂ m₁ 1814 n (same_set m₁ a k 1814 _ (inl (omega arith))) ∙
    entries_moved m a 1814 n (omega arith) (inl (omega arith)))
    (stack_same m₃ m₂ (a + 1) (same_copied m₂ 1814 (a + 1) n 0 (a + 1) (inr (omega arith))) ∙
    stack_more m₁ a k (omega arith) ∙
    ap₂ ◌∷◌ (mark_entry id) (stack_same m₁ m a (same_copied m a 1814 n 0 a (inr (omega arith)))))

pub running_id : (w : List ℕ) (r : Registers) (c : Slot) → Busy w r → c ≡ get_or (slots w) (1752 + (r.depth - 1)) nil → (running (contexts_of (slots w) r.depth)).id ≡ c.kind
unfolding running context_in
running_id w r c g e = rw (contexts_at (slots w) r.depth c g.runs e)

-- ---- MARK

module _ {w : List ℕ} {r : Registers} (n : ℕ) (b : Bool) (g : Busy w r) (eb : b ≡ leb n (length (above (stack_of (slots w) r.height)))) where
  pub place_few : {r' : Perhaps} → b ≡ false → r' ≡ None → Tried (place n) w r w r'
  unfolding place provided
  place_few {r'} h q = tried_no (rw (← eb, h)) q

  module _ (there : b ≡ true) where
    marked : ℕ → List Entry
    marked id = entries_at (slots w) (r.height - n) n ++ (mark id ∷ stack_of (slots w) (r.height - n))

    marked_long : (id : ℕ) → length (marked id) ≡ r.height + 1
    unfolding marked
    marked_long id = let l = few n b g eb there in rw (length-append, length_entries, length_stack) (omega arith)

    module _ (c : Slot) (got : c ≡ get_or (slots w) (1752 + (r.depth - 1)) nil) where
      place_is : place n (abs w r) ≡ limited (with_stack (marked c.kind) (abs w r))
      unfolding place provided marked
      place_is =
          let s = stack_of (slots w) r.height in
          let en = enough n b g eb there in
          let l = few n b g eb there in
          let low : over (drop n (above s)) (beneath s) ≡ stack_of (slots w) (r.height - n) = over_drop s n en ∙ stack_dropped (slots w) n r.height l in
          let all : over (take n (above s)) (mark c.kind ∷ stack_of (slots w) (r.height - n)) ≡ entries_at (slots w) (r.height - n) n ++ (mark c.kind ∷ stack_of (slots w) (r.height - n)) =
          over_take s n _ en ∙ ap (λ (x : List Entry). x ++ (mark c.kind ∷ stack_of (slots w) (r.height - n))) (stack_taken (slots w) n r.height l) in
          rw (← eb, there, running_id w r c g got, low, all)

      pub place_yes : {w' : List ℕ} {r' : Perhaps} → r.height < 128 → slots w' ≡ mark_put (slots w) (r.height - n) n c.kind → r' ≡ Some (trying r (r.height + 1) r.depth r.used) → Tried (place n) w r w' r'
      unfolding mark_put marked
      place_yes {w'} {r'} f p q =
          let m = slots w in
          let a = r.height - n in
          let l = few n b g eb there in
          let room = wide w g.room in
          let big : 2400 ≤ length (mark_put m a n c.kind) = rw (length_copied, length-set, length_copied) room in
          let rm = room_of_lem w' (mark_put m a n c.kind) p big in
          let sm : Same (slots w') m 128 1814 = rw p (mark_same m a n c.kind (omega arith)) in
          let e : r.height + 1 ≡ (a + 1) + n = omega arith in
          let st : stack_of (slots w') (r.height + 1) ≡ marked c.kind = rw (p, e) (mark_stack m a n c.kind (omega arith) room) in
          stack_made (r.height + 1) (marked c.kind) g rm (omega arith) sm st place_is q

    pub place_full : {r' : Perhaps} → 128 ≤ r.height → r' ≡ None → Tried (place n) w r w r'
    place_full {r'} f q =
        let c = get_or (slots w) (1752 + (r.depth - 1)) nil in
        tried_no (place_is c refl ∙ full_stack w r (marked c.kind) (omega (arith, marked_long c.kind))) q

-- under no value
module _ {w : List ℕ} {r : Registers} (g : Busy w r) where
  none_enough : true ≡ leb 0 (length (above (stack_of (slots w) r.height)))
  none_enough = sym (le-leb 0 (length (above (stack_of (slots w) r.height))) (omega arith))

  pub bare_full : {r' : Perhaps} → 128 ≤ r.height → r' ≡ None → Tried (place 0) w r w r'
  bare_full f q = place_full 0 true g none_enough refl f q

  pub bare_yes : {w' : List ℕ} {r' : Perhaps} (c : Slot) → c ≡ get_or (slots w) (1752 + (r.depth - 1)) nil → r.height < 128 → slots w' ≡ mark_put (slots w) r.height 0 c.kind → r' ≡ Some (trying r (r.height + 1) r.depth r.used) → Tried (place 0) w r w' r'
  bare_yes c got f p q = let z : r.height - 0 ≡ r.height = omega arith in place_yes 0 true g none_enough refl c got f (rw z p) q

-- ---- UNMARK

no_value_beneath : (s : List Entry) (x : Value) (t : List Entry) → beneath s ≡ val x ∷ t → ⊥
unfolding beneath
no_value_beneath [] x t e = let z : ◌≡◌ {A = ℕ} 0 1 = cc in omega arith
no_value_beneath (val v ∷ s) x t e = no_value_beneath s x t e
no_value_beneath (mark k ∷ s) x t e = let z : ◌≡◌ {A = ℕ} 0 1 = cc in omega arith

-- under n values stands a value: there are more
value_under : (s : List Entry) (n : ℕ) (x : Value) (t : List Entry) → drop n s ≡ val x ∷ t → n ≡ length (above s) → ⊥
value_under s n x t d e = no_value_beneath s x t (beneath_drop s ∙ (rw (← e) d))

-- under n values stands a mark: there are exactly n
mark_under : (s : List Entry) (n k : ℕ) (t : List Entry) → n ≤ length (above s) → drop n s ≡ mark k ∷ t → (n ≡ length (above s)) × (beneath s ≡ mark k ∷ t)
unfolding above beneath
mark_under [] zero k t h e = let z : ◌≡◌ {A = ℕ} 0 1 = cc in absurd (omega arith)
mark_under [] (suc n) k t h e = absurd (omega arith)
mark_under (val v ∷ s) zero k t h e = let z : ◌≡◌ {A = ℕ} 0 1 = cc in absurd (omega arith)
mark_under (val v ∷ s) (suc n) k t h e = let i = mark_under s n k t (omega arith) e in (ap suc i.0, i.1)
mark_under (mark j ∷ s) zero k t h e = (refl, e)
mark_under (mark j ∷ s) (suc n) k t h e = absurd (omega arith)

no_second : (b : Bool) (o : Option State) → provided (b && false) o ≡ none
unfolding provided
no_second true o = refl
no_second false o = refl

-- another count than the values above the mark
miss : (id n : ℕ) (vs : List Value) (t : List Entry) (s : State) → (n ≡ length vs → ⊥) → remove_at id n vs t s ≡ none
unfolding remove_at provided
miss id n vs [] s h = refl
miss id n vs (val v ∷ t) s h = refl
miss id n vs (mark k ∷ t) s h = rw (ne_eqb n (length vs) h) (no_second (eqb k id) _)

bare_by : (id n : ℕ) (s : List Entry) (t : State) → length s ≤ n → Dec (n ≡ length (above s)) → remove_at id n (above s) (beneath s) t ≡ none
unfolding remove_at
bare_by id n s t h (yes e) =
    let l : length s ≤ length (above s) = omega (arith, above_few s) in
    let b : beneath s ≡ [] = beneath_drop s ∙ drop_of_length-le s l in
    rw b
bare_by id n s t h (no e) = miss id n (above s) (beneath s) t e

module _ {w : List ℕ} {r : Registers} (n : ℕ) (g : Busy w r) where
  pub remove_bare : {r' : Perhaps} → r.height ≤ n → r' ≡ None → Tried (remove n) w r w r'
  unfolding remove
  remove_bare {r'} h q = tried_no (bare_by _ n (stack_of (slots w) r.height) _ (omega (arith, length_stack (slots w) r.height)) (ℕ_discrete n _)) q

  module _ (b : Bool) (eb : b ≡ leb n (length (above (stack_of (slots w) r.height)))) where
    pub remove_few : {r' : Perhaps} → b ≡ false → r' ≡ None → Tried (remove n) w r w r'
    unfolding remove
    remove_few {r'} h q = tried_no (miss _ n _ _ _ (λ e. let l = leb-false n _ (sym eb ∙ h) in omega arith)) q

    module _ (there : b ≡ true) (v : Slot) (got : v ≡ get_or (slots w) (r.height - n - 1) nil) (more : n < r.height) where
      under : drop n (stack_of (slots w) r.height) ≡ entry_in v ∷ stack_of (slots w) (r.height - n - 1)
      under = stack_dropped (slots w) n r.height (omega arith) ∙ stack_at (slots w) (r.height - n) v (omega arith) got

      pub remove_value : {r' : Perhaps} → (v.kind ≡ 5 → ⊥) → r' ≡ None → Tried (remove n) w r w r'
      unfolding remove entry_in
      remove_value {r'} h q =
          let u : drop n (stack_of (slots w) r.height) ≡ val (value_in v) ∷ stack_of (slots w) (r.height - n - 1) = rw (ne_eqb v.kind 5 h) at under in
          tried_no (miss _ n _ _ _ (value_under (stack_of (slots w) r.height) n _ _ u)) q

      module _ (is : v.kind ≡ 5) (c : Slot) (has : c ≡ get_or (slots w) (1752 + (r.depth - 1)) nil) where
        marked_at : (n ≡ length (above (stack_of (slots w) r.height))) × (beneath (stack_of (slots w) r.height) ≡ mark v.a ∷ stack_of (slots w) (r.height - n - 1))
        unfolding entry_in
        marked_at =
            let u : drop n (stack_of (slots w) r.height) ≡ mark v.a ∷ stack_of (slots w) (r.height - n - 1) = rw (eq-eqb v.kind 5 is) at under in
            mark_under (stack_of (slots w) r.height) n v.a _ (enough n b g eb there) u

        pub remove_other : {r' : Perhaps} → (v.a ≡ c.kind → ⊥) → r' ≡ None → Tried (remove n) w r w r'
        unfolding remove remove_at provided
        remove_other {r'} h q = tried_no (rw (marked_at.1, running_id w r c g has, ne_eqb v.a c.kind h)) q

        pub remove_yes : {w' : List ℕ} {r' : Perhaps} → v.a ≡ c.kind → slots w' ≡ copied (slots w) (r.height - n) (r.height - n - 1) n → r' ≡ Some (trying r (r.height - 1) r.depth r.used) → Tried (remove n) w r w' r'
        unfolding remove remove_at provided
        remove_yes {w'} {r'} own p q =
            let m = slots w in
            let h = r.height in
            let a = h - n - 1 in
            let m' = copied m (h - n) a n in
            let room = wide w g.room in
            let big : 2400 ≤ length m' = rw length_copied room in
            let rm = room_of_lem w' m' p big in
            let l = entries_at m (h - n) n ++ stack_of m a in
            let all = marked_at.0 in
            let whole : over (above (stack_of m h)) (stack_of m a) ≡ l =
            over_all (stack_of m h) (stack_of m a) ∙ (rw (← all) (ap (λ (x : List Entry). x ++ stack_of m a) (stack_taken m n h (omega arith)))) in
            let e : h - 1 ≡ a + n = omega arith in
            let st : stack_of m' (h - 1) ≡ l =
            rw e (stack_joined m' a n ∙
            ap₂ ◌++◌ (entries_moved m (h - n) a n (omega arith) (inr (omega arith))) (stack_same m' m a (same_copied m (h - n) a n 0 a (inr (omega arith))))) in
            let sm : Same (slots w') m 128 1814 = rw p (same_copied m (h - n) a n 128 1814 (inl (omega arith))) in
            stack_made (h - 1) l g rm (omega arith) sm (rw p st) (rw (marked_at.1, running_id w r c g has, eq-eqb v.a c.kind own, eq-eqb n _ all, whole) refl) q

-- ---- COUNT

module _ {w : List ℕ} {r : Registers} (i : ℕ) (g : Busy w r) (il : i ≤ r.height) (ei : r.height - i ≡ length (above (stack_of (slots w) r.height))) where
  beneath_is : beneath (stack_of (slots w) r.height) ≡ stack_of (slots w) i
  beneath_is =
      let e : r.height - (r.height - i) ≡ i = omega arith in
      beneath_drop (stack_of (slots w) r.height) ∙ (rw (← ei, stack_dropped (slots w) (r.height - i) r.height (omega arith), e))

  bare : i ≡ 0 → beneath (stack_of (slots w) r.height) ≡ []
  unfolding stack_of desc
  bare e = beneath_is ∙ (rw e)

  pub tally_bare : {r' : Perhaps} → i ≡ 0 → r' ≡ None → Tried tally w r w r'
  unfolding tally tally_at
  tally_bare {r'} e q = tried_no (rw (bare e)) q

  module _ (v : Slot) (got : v ≡ get_or (slots w) (i - 1) nil) (ne : i ≡ 0 → ⊥) where
    top_is : beneath (stack_of (slots w) r.height) ≡ entry_in v ∷ stack_of (slots w) (i - 1)
    top_is = beneath_is ∙ stack_at (slots w) i v (omega arith) got

    pub tally_value : {r' : Perhaps} → (v.kind ≡ 5 → ⊥) → r' ≡ None → Tried tally w r w r'
    unfolding tally tally_at entry_in
    tally_value {r'} h q = tried_no (rw (top_is, ne_eqb v.kind 5 h)) q

    module _ (is : v.kind ≡ 5) (c : Slot) (has : c ≡ get_or (slots w) (1752 + (r.depth - 1)) nil) where
      mark_is : beneath (stack_of (slots w) r.height) ≡ mark v.a ∷ stack_of (slots w) (i - 1)
      unfolding entry_in
      mark_is = rw (eq-eqb v.kind 5 is) at top_is

      pub tally_other : {r' : Perhaps} → (v.a ≡ c.kind → ⊥) → r' ≡ None → Tried tally w r w r'
      unfolding tally tally_at provided
      tally_other {r'} h q = tried_no (rw (mark_is, running_id w r c g has, ne_eqb v.a c.kind h)) q

      pub tally_push : {w' : List ℕ} {r' : Perhaps} (n : ℕ) → v.a ≡ c.kind → n ≡ r.height - i → Tried (push (value_in (mk 1 n 1 0 0))) w r w' r' → Tried tally w r w' r'
      unfolding tally tally_at provided value_in natural
      tally_push {w'} {r'} n h e t =
          let l : r.height - i ≤ 128 = omega arith in
          tried_as (rw (mark_is, running_id w r c g has, eq-eqb v.a c.kind h, ← ei, e, to_z_pos w32 {n = r.height - i} (omega arith))) t
