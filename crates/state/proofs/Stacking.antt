-- The values above the topmost mark: how many, the topmost, one more, COPY and ROLL. Assumes nothing.
use mathlib.Core.Path.{◌≡◌, refl, ap, ap₂, sym, ◌∙◌}
use mathlib.Core.Bool.{Bool, true, false}
use mathlib.Core.Logic.{inl, inr}
use mathlib.Core.List.{List, [], ◌∷◌, ◌++◌, append-nil}
use Prim.Native.Nat.{ℕ, zero, suc, ◌+◌, ◌-◌, ◌≤◌, ◌<◌}
use native.Mathlib.Omega.{arith}
use borrow.Author.Tests.{eq-eqb, ne_eqb, le-leb, lt-leb, leb-true}
use lib.Dec.{leb}
use lib.ListN.{length, get_or, set, take, drop, length-set, length-append}
use Rattle.std.specs.Prelude.{Some, None}
use Rattle.table.specs.declared.Slot.{Slot}
use Rattle.table.specs.Slots.{nil, mk, slots, desc, copied, rolled}
use Rattle.table.proofs.Moves.{Same, same_set, same_copied, same_then, length_copied}
use Rattle.machine.specs.declared.Value.{Value}
use Rattle.machine.specs.State.{Entry, val, mark, State, running}
use Rattle.machine.specs.Contexts.{above, beneath, over}
use Rattle.machine.specs.Engine.{limited, provided, with_stack, values, pops, push, repeat, turn}
use Rattle.state.specs.declared.Registers.{Registers}
use Rattle.state.specs.declared.Tops.{Tops}
use Rattle.state.specs.Layout.{value_in, entry_in, stack_of, context_in, contexts_of, abs, Busy, Perhaps, Tried}
use lib.Dec.{leb-suc-suc}
use Rattle.state.specs.Layout.{Topmost}
use Rattle.state.specs.Operations.{push_two, utter}
use Rattle.state.proofs.Coding.{name_slot}
use Rattle.state.proofs.Parts.{wide, room_of_lem, stack_same, contexts_at, stack_at, stack_more, length_stack}
use Rattle.state.proofs.Cutting.{over_take, over_above, over_drop, entries_at, length_entries, stack_taken, stack_dropped, stack_joined, entries_moved, entries_drop, entries_rolled}
use Rattle.state.proofs.Trying.{trying, tried_no, tried_as, tried_from, pops_is, full_stack, stack_made}
use Rattle.machine.specs.State as state

-- ---- how many there are

less : (a b : ℕ) → 0 < a → leb a (suc b) ≡ leb (a - 1) b
less zero b h = absurd (omega arith)
less (suc a) b h = let e : suc a - 1 ≡ a = omega arith in rw e (leb-suc-suc a b)

pub above_few : (s : List Entry) → length (above s) ≤ length s
unfolding above
above_few [] = omega arith
above_few (val v ∷ s) = omega (arith, above_few s)
above_few (mark k ∷ s) = omega arith

pub has_few : (m : List Slot) (height n : ℕ) → height < n → false ≡ leb n (length (above (stack_of m height)))
has_few m height n h = sym (lt-leb n _ (omega (arith, above_few (stack_of m height), length_stack m height)))

module _ {R : Bool} (m : List Slot) (top left : ℕ) (inv : leb left (length (above (stack_of m top))) ≡ R) where
  module _ (v : Slot) (got : v ≡ get_or m (top - 1) nil) (more : 0 < left) (some_left : left ≤ top) where
    pub has_mark : v.kind ≡ 5 → false ≡ R
    unfolding above entry_in
    has_mark e =
        let k = rw (stack_at m top v (omega arith) got, eq-eqb v.kind 5 e) at inv in
        sym (lt-leb left 0 more) ∙ k

    pub has_more : (v.kind ≡ 5 → ⊥) → leb (left - 1) (length (above (stack_of m (top - 1)))) ≡ R
    unfolding above entry_in
    has_more e =
        let k = rw (stack_at m top v (omega arith) got, ne_eqb v.kind 5 e) at inv in
        sym (less left _ more) ∙ k

-- ---- the two topmost

pub zero_value : value_in (mk 1 0 1 0 0) ≡ state.zero
unfolding value_in
zero_value = refl

module _ (m : List Slot) (height : ℕ) (z : Slot) (is_zero : z ≡ mk 1 0 1 0 0) where
  no_value : value_in z ≡ state.zero
  no_value = rw is_zero zero_value

  pub tops_empty : height ≡ 0 → Topmost (above (stack_of m height)) (record { count = 0; first = z; second = z })
  unfolding above stack_of desc
  tops_empty e = rw e (record { count = refl; first = no_value; second = no_value })

  module _ (v : Slot) (got : v ≡ get_or m (height - 1) nil) (some_entry : height ≡ 0 → ⊥) where
    pub tops_mark : v.kind ≡ 5 → Topmost (above (stack_of m height)) (record { count = 0; first = z; second = z })
    unfolding above entry_in
    tops_mark e = rw (stack_at m height v (omega arith) got, eq-eqb v.kind 5 e) (record { count = refl; first = no_value; second = no_value })

    module _ (is_value : v.kind ≡ 5 → ⊥) where
      pub above_value : above (stack_of m height) ≡ value_in v ∷ above (stack_of m (height - 1))
      unfolding above entry_in
      above_value = rw (stack_at m height v (omega arith) got, ne_eqb v.kind 5 is_value)

      pub tops_one : height ≡ 1 → Topmost (above (stack_of m height)) (record { count = 1; first = v; second = z })
      unfolding above stack_of desc
      tops_one e =
          let none_left : above (stack_of m (height - 1)) ≡ [] = let l : height - 1 ≡ 0 = omega arith in rw l in
          rw (above_value, none_left) (record { count = refl; first = refl; second = no_value })

      module _ (u : Slot) (got₂ : u ≡ get_or m (height - 2) nil) (two : height ≡ 1 → ⊥) where
        next : stack_of m (height - 1) ≡ entry_in u ∷ stack_of m (height - 1 - 1)
        next = let e : height - 2 ≡ height - 1 - 1 = omega arith in stack_at m (height - 1) u (omega arith) (rw (← e) got₂)

        pub tops_over : u.kind ≡ 5 → Topmost (above (stack_of m height)) (record { count = 1; first = v; second = z })
        unfolding above entry_in
        tops_over e = rw (above_value, next, eq-eqb u.kind 5 e) (record { count = refl; first = refl; second = no_value })

        pub tops_two : (u.kind ≡ 5 → ⊥) → Topmost (above (stack_of m height)) (record { count = 2; first = v; second = u })
        unfolding above entry_in
        tops_two e = rw (above_value, next, ne_eqb u.kind 5 e) (record { count = refl; first = refl; second = refl })

-- ---- a value pushed

pub value_entry : (v : Slot) → (v.kind ≡ 5 → ⊥) → entry_in v ≡ val (value_in v)
unfolding entry_in
value_entry v n = rw (ne_eqb v.kind 5 n)

pub push_yes : {w w' : List ℕ} {r : Registers} {r' : Perhaps} (v : Slot) → Busy w r → (v.kind ≡ 5 → ⊥) → r.height < 128 → slots w' ≡ set (slots w) r.height v → r' ≡ Some (trying r (r.height + 1) r.depth r.used) → Tried (push (value_in v)) w r w' r'
unfolding push
push_yes {w} {w'} {r} {r'} v g n h p q =
    let m = slots w in
    let room = wide w g.room in
    let l : 2400 ≤ length (set m r.height v) = rw length-set room in
    let rm = room_of_lem w' (set m r.height v) p l in
    let st : stack_of (slots w') (r.height + 1) ≡ val (value_in v) ∷ stack_of m r.height = rw (p, ← (value_entry v n)) (stack_more m r.height v (omega arith)) in
    let sm : Same (slots w') m 128 1814 = rw p (same_set m r.height v 128 1814 (inl h)) in
    stack_made (r.height + 1) (val (value_in v) ∷ stack_of m r.height) g rm (omega arith) sm st refl q

pub push_no : {w : List ℕ} {r : Registers} {r' : Perhaps} (v : Slot) → Busy w r → 128 ≤ r.height → r' ≡ None → Tried (push (value_in v)) w r w r'
unfolding push
push_no {w} {r} {r'} v g h q = tried_no (full_stack w r (val (value_in v) ∷ stack_of (slots w) r.height) (omega (arith, length_stack (slots w) r.height))) q

pub push_as : {w w' : List ℕ} {r : Registers} {r' : Perhaps} (v : Value) (u : Slot) → value_in u ≡ v → Tried (push (value_in u)) w r w' r' → Tried (push v) w r w' r'
push_as v u e t = rw (← e) t

running_origin : (w : List ℕ) (r : Registers) (c : Slot) → Busy w r → c ≡ get_or (slots w) (1752 + (r.depth - 1)) nil → (running (contexts_of (slots w) r.depth)).origin ≡ c.a
unfolding running context_in
running_origin w r c g e = rw (contexts_at (slots w) r.depth c g.runs e)

pub name_push : {w w' : List ℕ} {r : Registers} {r' : Perhaps} (start len : ℕ) (c : Slot) → Busy w r → c ≡ get_or (slots w) (1752 + (r.depth - 1)) nil → Tried (push (value_in (mk 2 c.a start len 0))) w r w' r' → Tried (utter start len) w r w' r'
unfolding utter
name_push {w} {w'} {r} {r'} start len c g got t = tried_as (rw (running_origin w r c g got, (name_slot c.a start len).0)) t

module _ {w : List ℕ} {r : Registers} (v u : Value) (g : Busy w r) where
  pub two_no : {r' : Perhaps} → 127 ≤ r.height → r' ≡ None → Tried (push_two v u) w r w r'
  unfolding push_two push
  two_no {r'} h q = tried_no (full_stack w r (val u ∷ val v ∷ stack_of (slots w) r.height) (omega (arith, length_stack (slots w) r.height))) q

  pub two_yes : {w' : List ℕ} {r' : Perhaps} (w₁ : List ℕ) (x y : Slot) → r.height < 127 → (value_in x ≡ v) × (x.kind ≡ 5 → ⊥) → (value_in y ≡ u) × (y.kind ≡ 5 → ⊥)
      → slots w₁ ≡ set (slots w) r.height x → slots w' ≡ set (slots w₁) (r.height + 1) y
      → r' ≡ Some (trying r (r.height + 2) r.depth r.used) → Tried (push_two v u) w r w' r'
  unfolding push_two push
  two_yes {w'} {r'} w₁ x y h (ex, nx) (ey, ny) p₁ p q =
      let m = slots w in
      let n = r.height in
      let room = wide w g.room in
      let m₁ = set m n x in
      let m' = set m₁ (n + 1) y in
      let l₁ : length m₁ ≡ length m = length-set m n x in
      let pm : slots w' ≡ m' = rw p₁ at p in
      let l : 2400 ≤ length m' = rw length-set (omega arith) in
      let rm = room_of_lem w' m' pm l in
      let s = val u ∷ val v ∷ stack_of m n in
      let e : n + 2 ≡ n + 1 + 1 = omega arith in
      let st : stack_of (slots w') (n + 2) ≡ s =
      rw (pm, e, ← ex, ← ey, ← (value_entry x nx), ← (value_entry y ny)) (stack_more m₁ (n + 1) y (omega arith) ∙ ap (λ l. entry_in y ∷ l) (stack_more m n x (omega arith))) in
      let sm : Same (slots w') m 128 1814 = rw pm (same_then m' m₁ m 128 1814 (same_set m₁ (n + 1) y 128 1814 (inl (omega arith))) (same_set m n x 128 1814 (inl (omega arith)))) in
      stack_made (n + 2) s g rm (omega arith) sm st refl q

-- ---- values above the mark, put together anew

over_append : (a b : List Value) (t : List Entry) → over (a ++ b) t ≡ over a (over b t)
unfolding over
over_append [] b t = refl
over_append (v ∷ a) b t = ap (λ l. val v ∷ l) (over_append a b t)

over_apart : (a : List Value) (t : List Entry) → over a t ≡ over a [] ++ t
unfolding over
over_apart [] t = refl
over_apart (v ∷ a) t = ap (λ l. val v ∷ l) (over_apart a t)

over_rest : (k : ℕ) (a : List Value) → over (drop k a) [] ≡ drop k (over a [])
unfolding over
over_rest zero a = refl
over_rest (suc k) [] = refl
over_rest (suc k) (v ∷ a) = over_rest k a

-- ---- COPY

module _ {w : List ℕ} {r : Registers} (n : ℕ) (b : Bool) (g : Busy w r) (eb : b ≡ leb n (length (above (stack_of (slots w) r.height)))) where
  pub repeat_few : {r' : Perhaps} → b ≡ false → r' ≡ None → Tried (repeat n) w r w r'
  unfolding repeat provided
  repeat_few {r'} h q = tried_no (rw (← eb, h)) q

  module _ (there : b ≡ true) where
    pub enough : n ≤ length (above (stack_of (slots w) r.height))
    enough = leb-true n _ (sym eb ∙ there)

    pub few : n ≤ r.height
    few = omega (arith, enough, above_few (stack_of (slots w) r.height), length_stack (slots w) r.height)

    copies : List Entry
    copies = entries_at (slots w) (r.height - n) n ++ stack_of (slots w) r.height

    repeat_is : repeat n (abs w r) ≡ limited (with_stack copies (abs w r))
    unfolding repeat provided copies
    repeat_is =
        let s = stack_of (slots w) r.height in
        let e : over (take n (above s) ++ above s) (beneath s) ≡ entries_at (slots w) (r.height - n) n ++ s =
        over_append (take n (above s)) (above s) (beneath s) ∙
        ap (over (take n (above s))) (over_above s) ∙
        over_take s n s enough ∙
        ap (λ (l : List Entry). l ++ s) (stack_taken (slots w) n r.height few) in
        rw (← eb, there, e)

    copies_long : length copies ≡ n + r.height
    unfolding copies
    copies_long = rw (length-append, length_entries, length_stack)

    pub repeat_full : {r' : Perhaps} → 128 < r.height + n → r' ≡ None → Tried (repeat n) w r w r'
    repeat_full {r'} f q = tried_no (repeat_is ∙ full_stack w r copies (omega (arith, copies_long))) q

    pub repeat_yes : {w' : List ℕ} {r' : Perhaps} → r.height + n ≤ 128 → slots w' ≡ copied (slots w) (r.height - n) r.height n → r' ≡ Some (trying r (r.height + n) r.depth r.used) → Tried (repeat n) w r w' r'
    unfolding copies
    repeat_yes {w'} {r'} f p q =
        let m = slots w in
        let h = r.height in
        let m' = copied m (h - n) h n in
        let room = wide w g.room in
        let big : 2400 ≤ length m' = rw length_copied room in
        let rm = room_of_lem w' m' p big in
        let l = few in
        let sm : Same (slots w') m 128 1814 = rw p (same_copied m (h - n) h n 128 1814 (inl (omega arith))) in
        let st : stack_of (slots w') (h + n) ≡ copies =
        rw p (stack_joined m' h n ∙
        ap₂ ◌++◌ (entries_moved m (h - n) h n (omega arith) (inl (omega arith))) (stack_same m' m h (same_copied m (h - n) h n 0 h (inr (omega arith))))) in
        stack_made (h + n) copies g rm f sm st repeat_is q

  -- ROLL

  module _ (first : ℕ) where
    pub turn_few : {r' : Perhaps} → b ≡ false → r' ≡ None → Tried (turn n first) w r w r'
    unfolding turn provided
    turn_few {r'} h q = tried_no (rw (← eb, h)) q

    module _ (there : b ≡ true) (j : ℕ) (ej : j ≡ n - first) where
      j_few : j ≤ n
      j_few = omega arith

      turned : List Entry
      turned = entries_at (slots w) (r.height - n) (n - j) ++ (entries_at (slots w) (r.height - j) j ++ stack_of (slots w) (r.height - n))

      turn_is : turn n first (abs w r) ≡ limited (with_stack turned (abs w r))
      unfolding turn provided turned
      turn_is =
          let m = slots w in
          let h = r.height in
          let s = stack_of m h in
          let vs = above s in
          let en = enough there in
          let l = few there in
          let jn = j_few in
          let low : over (drop n vs) (beneath s) ≡ stack_of m (h - n) = over_drop s n en ∙ stack_dropped m n h l in
          let mid : over (take j vs) (stack_of m (h - n)) ≡ entries_at m (h - j) j ++ stack_of m (h - n) =
          over_take s j (stack_of m (h - n)) (omega arith) ∙ ap (λ (x : List Entry). x ++ stack_of m (h - n)) (stack_taken m j h (omega arith)) in
          let top : over (drop j (take n vs)) [] ≡ entries_at m (h - n) (n - j) =
          over_rest j (take n vs) ∙ ap (drop j) (over_take s n [] en ∙ append-nil (take n s) ∙ stack_taken m n h l) ∙ entries_drop m (h - n) j n jn in
          let e : over (drop j (take n vs) ++ (take j vs ++ drop n vs)) (beneath s) ≡ entries_at m (h - n) (n - j) ++ (entries_at m (h - j) j ++ stack_of m (h - n)) =
          over_append (drop j (take n vs)) (take j vs ++ drop n vs) (beneath s) ∙
          ap (over (drop j (take n vs))) (over_append (take j vs) (drop n vs) (beneath s) ∙ ap (over (take j vs)) low ∙ mid) ∙
          over_apart (drop j (take n vs)) _ ∙
          ap (λ (x : List Entry). x ++ (entries_at m (h - j) j ++ stack_of m (h - n))) top in
          rw (← ej, ← eb, there, e)

      turned_long : length turned ≡ r.height
      unfolding turned
      turned_long = let l = few there in let jn = j_few in rw (length-append, length-append, length_entries (slots w) (r.height - n) (n - j), length_entries (slots w) (r.height - j) j, length_stack) (omega arith)

      pub turn_yes : {w' : List ℕ} {r' : Perhaps} → slots w' ≡ rolled (slots w) (r.height - n) n j 1814 → r' ≡ Some (trying r r.height r.depth r.used) → Tried (turn n first) w r w' r'
      unfolding turned
      turn_yes {w'} {r'} p q =
          let m = slots w in
          let h = r.height in
          let a = h - n in
          let l = few there in
          let jn = j_few in
          let room = wide w g.room in
          let m₁ = copied m a 1814 n in
          let m₂ = copied m₁ (1814 + (n - j)) a j in
          let m' = copied m₂ 1814 (a + j) (n - j) in
          let big : 2400 ≤ length m' = rw (length_copied, length_copied, length_copied) room in
          let rm = room_of_lem w' m' p big in
          let sm : Same (slots w') m 128 1814 =
          rw p (same_then m' m₂ m 128 1814 (same_copied m₂ 1814 (a + j) (n - j) 128 1814 (inl (omega arith)))
          (same_then m₂ m₁ m 128 1814 (same_copied m₁ (1814 + (n - j)) a j 128 1814 (inl (omega arith))) (same_copied m a 1814 n 128 1814 (inr (omega arith))))) in
          let e : h ≡ a + n = omega arith in
          let e' : a + (n - j) ≡ h - j = omega arith in
          let st : stack_of (slots w') h ≡ turned =
          rw p (ap (stack_of m') e ∙ entries_rolled m a n j jn (omega arith) (omega arith) ∙
          ap (λ k. entries_at m a (n - j) ++ (entries_at m k j ++ stack_of m a)) e') in
          stack_made h turned g rm g.stack_fits sm st turn_is q

-- ---- two are enough to know whether there are a, of at most two

pub fewer : (vs : List Value) (a : ℕ) → a ≤ 2 → length (take 2 vs) < a → length vs < a
fewer [] a h l = l
fewer (x ∷ []) a h l = l
fewer (x ∷ y ∷ vs) a h l = absurd (omega arith)

pub enough_there : (vs : List Value) (a : ℕ) → a ≤ length (take 2 vs) → a ≤ length vs
enough_there [] a l = l
enough_there (x ∷ []) a l = l
enough_there (x ∷ y ∷ vs) a l = omega arith

-- the height does not fall below the bottom
pub tops_fit : (m : List Slot) (height a : ℕ) (t : Tops) → Topmost (above (stack_of m height)) t → a ≤ t.count → a ≤ height
tops_fit m height a t et h = let c = et.count in omega (arith, enough_there (above (stack_of m height)) a (omega arith), above_few (stack_of m height), length_stack m height)

-- ---- EXCH

-- two slots with the same values
pub two_as : {w w' : List ℕ} {r : Registers} {r' : Perhaps} (v u : Value) (x y : Slot) → value_in x ≡ v → value_in y ≡ u → Tried (push_two (value_in x) (value_in y)) w r w' r' → Tried (push_two v u) w r w' r'
two_as v u x y ex ey t = rw (← ex, ← ey) t

-- two values taken off and put back in the other order
swapped : (s : State) (vs : List Value) → values s ≡ vs → 2 ≤ length vs → turn 2 1 s ≡ push_two (get_or vs 0 state.zero) (get_or vs 1 state.zero) (pops 2 s)
unfolding turn push_two push pops over provided
swapped s [] e h = absurd (omega arith)
swapped s (x ∷ []) e h = absurd (omega arith)
swapped s (x ∷ y ∷ vs) e h = rw (e, le-leb 2 (length (x ∷ y ∷ vs)) h)

module _ {w : List ℕ} {r : Registers} (t : Tops) (g : Busy w r) (et : Topmost (above (stack_of (slots w) r.height)) t) where
  pub exchange_few : {r' : Perhaps} → t.count < 2 → r' ≡ None → Tried (turn 2 1) w r w r'
  unfolding turn provided
  exchange_few {r'} h q =
      let vs = above (stack_of (slots w) r.height) in
      tried_no (rw (lt-leb 2 (length vs) (fewer vs 2 (omega arith) (omega (arith, et.count))))) q

  two_there : 2 ≤ t.count → 2 ≤ length (above (stack_of (slots w) r.height))
  two_there h = enough_there (above (stack_of (slots w) r.height)) 2 (omega (arith, et.count))

  pub exchange_yes : {w' : List ℕ} {q : Registers} {r' : Perhaps} (x y : Slot) → 2 ≤ t.count → value_in x ≡ value_in t.first → value_in y ≡ value_in t.second → q ≡ trying r (r.height - 2) r.depth r.used
      → Tried (push_two (value_in x) (value_in y)) w q w' r' → Tried (turn 2 1) w r w' r'
  exchange_yes {w'} {q} {r'} x y h ex ey eq d =
      let vs = above (stack_of (slots w) r.height) in
      let z : length vs ≤ r.height = omega (arith, above_few (stack_of (slots w) r.height), length_stack (slots w) r.height) in
      tried_from (swapped (abs w r) vs refl (two_there h) ∙ (rw (eq, pops_is w r 2 (length vs) (two_there h) z refl, ex, ey, et.first, et.second))) (rw eq) d
