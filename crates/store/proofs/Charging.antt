-- Cells charged: MAKEVEC, MAKEVECLU, MAKESIMPLECO and strings. Assumes nothing.
use mathlib.Core.Path.{◌≡◌, refl, ap, ap₂, sym, ◌∙◌}
use mathlib.Core.Bool.{Bool, true, false}
use mathlib.Core.Logic.{◌⊎◌, inl, inr}
use mathlib.Core.List.{List, [], ◌∷◌, ◌++◌, map, reverse, reverse-cons, append-nil}
use mathlib.Core.Option.{Option}
use Prim.Native.Nat.{ℕ, suc, ◌+◌, ◌-◌, ◌*◌, ◌≤◌, ◌<◌}
use native.Mathlib.Omega.{arith}
use borrow.Author.Tests.{le-leb, lt-leb}
use lib.Dec.{eqb, leb}
use lib.ListN.{length, get_or, set, take, length-set, length-append}
use lib.Seq.{get_or-set_same, get_or-set_other}
use mir.Syntax.{w32}
use mir.Facts.{to_z_pos}
use Rattle.std.specs.Prelude.{Some, None}
use Rattle.table.specs.declared.Slot.{Slot}
use Rattle.table.specs.Slots.{nil, mk, slots, asc, desc, copied}
use Rattle.table.proofs.SlotLists.{roomy}
use Rattle.table.proofs.Moves.{Same, same_set, same_copied, same_then, length_copied, desc_asc}
use Rattle.machine.specs.declared.Value.{Value}
use Rattle.machine.specs.declared.Value.TheVariants.{Number, Vector, Operator}
use Rattle.machine.specs.State.{Entry, val, mark, State, running}
use Rattle.machine.specs.Contexts.{above, over}
use Rattle.machine.specs.Engine.{fits, limited, provided, charge, build, compose, place}
use Rattle.state.specs.declared.Registers.{Registers}
use Rattle.state.specs.Layout.{value_in, entry_in, stack_of, values_at, frame_of, context_in, abs, Busy, Perhaps, Tried}
use lib.ListN.{length-map}
use lib.Seq.{sets, length-sets, slice, slice-cons}
use Rattle.tokens.specs.Joined.{Joined, whole, cut_at, data_of, joined_at, FitsText}
use Rattle.table.proofs.WordLists.{Bytes}
use Rattle.tokens.proofs.Copying.{Shows, data_bytes}
use Rattle.machine.specs.Literal.{numbers, letters_at}
use Rattle.state.specs.Operations.{letter_slots, VectorPut, spell}
use Rattle.state.proofs.Coding.{vector_slot}
use Rattle.state.proofs.Cutting.{map_append}
use Rattle.state.proofs.Parts.{wide, room_of_lem, stack_same, values_same, lent_same, contexts_same, aside_same, length_stack, length_values, length_contexts, stack_more, contexts_at}
use Rattle.state.proofs.Ending.{state_path}
use Rattle.state.proofs.Cutting.{over_take, over_above, over_drop, stack_taken, stack_dropped, values_moved, values_cut}
use Rattle.state.proofs.Framing.{frame_inside}
use Rattle.state.proofs.Trying.{trying, tried_no, tried_yes, fits_abs}
use Rattle.state.proofs.Stacking.{above_few, enough, few}

-- ---- another stack and other cells

abbrev pub with_cells : List Entry → List Value → State → State
with_cells l cells s = record { stack = l; contexts = s.contexts; frame = s.frame; cells = cells; skipping = s.skipping; steps = s.steps; errors = s.errors }

-- ---- the values on top, as values

value_of : (v : Value) (x : Slot) → val v ≡ entry_in x → v ≡ value_in x
unfolding entry_in
value_of v x e = go (eqb x.kind 5) refl
  where
    go : (t : Bool) → eqb x.kind 5 ≡ t → v ≡ value_in x
    go true q = let c : val v ≡ mark x.a = rw q at e in let z : ◌≡◌ {A = ℕ} 0 1 = cc in absurd (omega arith)
    go false q = let c : val v ≡ val (value_in x) = rw q at e in cc

values_of : (vs : List Value) (l : List Slot) → over vs [] ≡ map entry_in l → vs ≡ map value_in l
unfolding over
values_of [] [] e = refl
values_of [] (x ∷ l) e = let z : ◌≡◌ {A = ℕ} 0 1 = cc in absurd (omega arith)
values_of (v ∷ vs) [] e = let z : ◌≡◌ {A = ℕ} 0 1 = cc in absurd (omega arith)
values_of (v ∷ vs) (x ∷ l) e =
    let h : val v ≡ entry_in x = cc in
    let t : over vs [] ≡ map entry_in l = cc in
    ap₂ ◌∷◌ (value_of v x h) (values_of vs l t)

top_values : (m : List Slot) (n sp : ℕ) → n ≤ sp → n ≤ length (above (stack_of m sp)) → take n (above (stack_of m sp)) ≡ map value_in (desc m (sp - n) n)
top_values m n sp h k = values_of (take n (above (stack_of m sp))) (desc m (sp - n) n) (over_take (stack_of m sp) n [] k ∙ append-nil _ ∙ stack_taken m n sp h)

map_snoc : {A B : Type 0} (f : A → B) (k : List A) (a : A) → map f (k ++ (a ∷ [])) ≡ map f k ++ (f a ∷ [])
map_snoc f [] a = refl
map_snoc f (b ∷ k) a = ap (λ x. f b ∷ x) (map_snoc f k a)

pub map_reverse : {A B : Type 0} (f : A → B) (l : List A) → reverse (map f l) ≡ map f (reverse l)
map_reverse f [] = refl
map_reverse f (a ∷ l) = reverse-cons (f a) (map f l) ∙ ap (λ x. x ++ (f a ∷ [])) (map_reverse f l) ∙ sym (ap (map f) (reverse-cons a l) ∙ map_snoc f (reverse l) a)

charged : (m : List Slot) (n sp : ℕ) → n ≤ sp → n ≤ length (above (stack_of m sp)) → reverse (take n (above (stack_of m sp))) ≡ values_at m (sp - n) n
unfolding values_at
charged m n sp h k = rw (top_values m n sp h k) (map_reverse value_in (desc m (sp - n) n) ∙ ap (map value_in) (sym (desc_asc m (sp - n) n)))

-- ---- the value v at a, and n cells more: m₁ is the table with the cells

module _ {w : List ℕ} {r : Registers} (a n : ℕ) (v : Slot) (e : Value) (new : List Value) (m₁ : List Slot) (g : Busy w r) (al : a < 128) (room₁ : r.used + n ≤ 1024) (is : entry_in v ≡ val e)
    (long : length m₁ ≡ length (slots w)) (low : Same m₁ (slots w) 0 (728 + r.used)) (high : Same m₁ (slots w) 1752 1814) (made : values_at m₁ (728 + r.used) n ≡ new) where
  module _ (w' : List ℕ) (p : slots w' ≡ set m₁ a v) where
    put_low : (x y : ℕ) → a < x → y ≤ 728 + r.used → Same (slots w') (slots w) x y
    put_low x y l f = rw p (same_then (set m₁ a v) m₁ (slots w) x y (same_set m₁ a v x y (inl l)) (λ k s t. low k (omega arith) (omega arith)))

    put_high : (x y : ℕ) → 1752 ≤ x → y ≤ 1814 → Same (slots w') (slots w) x y
    put_high x y l f = rw p (same_then (set m₁ a v) m₁ (slots w) x y (same_set m₁ a v x y (inl (omega arith))) (λ k s t. high k (omega arith) (omega arith)))

    charged_abs : abs w' (trying r (a + 1) r.depth (r.used + n)) ≡ with_cells (val e ∷ stack_of (slots w) a) (values_at (slots w) 728 r.used ++ new) (abs w r)
    charged_abs =
        let m = slots w in
        let m' = set m₁ a v in
        let room = wide w g.room in
        state_path
        (rw (p, stack_more m₁ a v (omega arith), is) (ap (λ x. val e ∷ x) (stack_same m₁ m a (λ k s t. low k s (omega arith)))))
        (contexts_same (slots w') m r.depth r.used (omega (arith, lent_same (slots w') m r.depth (put_high 1752 _ (omega arith) (omega arith)))) g.cells_fit (put_low 128 _ al (omega arith)) (put_low 728 _ (omega arith) (omega arith)) (put_high 1752 _ (omega arith) (omega arith)))
        (values_same (slots w') m 128 50 (put_low 128 _ al (omega arith)))
        (rw p (values_same m' m₁ 728 (r.used + n) (same_set m₁ a v 728 _ (inl (omega arith))) ∙ values_cut m₁ 728 r.used n ∙
        ap₂ ◌++◌ (values_same m₁ m 728 r.used (λ k s t. low k (omega arith) t)) made))

    charged_room : 48000 ≤ length w'
    charged_room = room_of_lem w' (set m₁ a v) p (rw (length-set, long) (wide w g.room))

    charged_tried : (f : State → Option State) {r' : Perhaps} → f (abs w r) ≡ limited (with_cells (val e ∷ stack_of (slots w) a) (values_at (slots w) 728 r.used ++ new) (abs w r))
        → r' ≡ Some (trying r (a + 1) r.depth (r.used + n)) → Tried f w r w' r'
    charged_tried f {r'} meant q =
        let rm = charged_room in
        rw q (tried_yes (omega (arith, lent_same (slots w') (slots w) r.depth (put_high 1752 _ (omega arith) (omega arith)))) (aside_same w' w (put_high 1764 1814 (omega arith) (omega arith))) refl
        (meant ∙ (rw (← charged_abs) (fits_abs w' (trying r (a + 1) r.depth (r.used + n)) (omega arith) g.depth_fits room₁))))

-- a charge that fails
module _ {w : List ℕ} {r : Registers} (f : State → Option State) (s : List Entry) (cells : List Value) (g : Busy w r) (meant : f (abs w r) ≡ limited (with_cells s cells (abs w r))) where
  charge_full : {r' : Perhaps} → 128 < length s → r' ≡ None → Tried f w r w r'
  unfolding limited fits
  charge_full {r'} h q = tried_no (meant ∙ (rw (lt-leb (length s) 128 h))) q

  charge_over : {r' : Perhaps} → length s ≤ 128 → 1024 < length cells → r' ≡ None → Tried f w r w r'
  unfolding limited fits
  charge_over {r'} l h q = tried_no (meant ∙ (rw (le-leb (length s) 128 l, length_contexts, le-leb r.depth 12 g.depth_fits, lt-leb (length cells) 1024 h))) q

cells_long : (w : List ℕ) (u b n : ℕ) → length (values_at (slots w) 728 u ++ values_at (slots w) b n) ≡ u + n
cells_long w u b n = rw (length-append, length_values (slots w) 728 u, length_values (slots w) b n)

-- ---- a vector put

pub vector_put : (a lower n f c : ℕ) (w : List ℕ) (r : Registers) (w' : List ℕ) (r' : Registers) → f ≡ r.used → c ≡ n → slots w' ≡ set (slots w) a (mk 3 f lower c 0) → r' ≡ trying r (a + 1) r.depth (r.used + n) → VectorPut a lower n w r w' r'
vector_put a lower n f c w r w' r' ef ec p q = record { put = rw (← ef, ← ec) p; registers = q }

-- ---- MAKEVEC

vector_entry : (f l n : ℕ) → f < 2147483648 → l < 2147483648 → n < 2147483648 → entry_in (mk 3 f l n 0) ≡ val (Vector f l n)
unfolding entry_in
vector_entry f l n h i k = ap val (vector_slot f l n h i k)

module _ {w : List ℕ} {r : Registers} (lower n : ℕ) (g : Busy w r) where
  pub build_short : {r' : Perhaps} → r.height < n → r' ≡ None → Tried (build lower n) w r w r'
  unfolding build provided
  build_short {r'} h q = tried_no (rw (lt-leb n (length (above (stack_of (slots w) r.height))) (omega (arith, above_few (stack_of (slots w) r.height), length_stack (slots w) r.height)))) q

  module _ (b : Bool) (eb : b ≡ leb n (length (above (stack_of (slots w) r.height)))) where
    pub build_few : {r' : Perhaps} → b ≡ false → r' ≡ None → Tried (build lower n) w r w r'
    unfolding build provided
    build_few {r'} h q = tried_no (rw (← eb, h)) q

    module _ (there : b ≡ true) where
      build_is : build lower n (abs w r) ≡ limited (with_cells (val (Vector r.used lower n) ∷ stack_of (slots w) (r.height - n)) (values_at (slots w) 728 r.used ++ values_at (slots w) (r.height - n) n) (abs w r))
      unfolding build charge provided over
      build_is =
          let en = enough n b g eb there in
          let l = few n b g eb there in
          rw (← eb, there, length_values, over_drop (stack_of (slots w) r.height) n en, stack_dropped (slots w) n r.height l, charged (slots w) n r.height l en)

      pub build_full : {r' : Perhaps} → 128 + n ≤ r.height → r' ≡ None → Tried (build lower n) w r w r'
      build_full {r'} f q = charge_full (build lower n) _ _ g build_is (omega (arith, length_stack (slots w) (r.height - n))) q

      module _ (st : r.height < 128 + n) where
        pub build_over : {r' : Perhaps} → 1024 < r.used + n → r' ≡ None → Tried (build lower n) w r w r'
        build_over {r'} f q = charge_over (build lower n) _ _ g build_is (omega (arith, length_stack (slots w) (r.height - n))) (omega (arith, cells_long w r.used (r.height - n) n)) q

        pub build_yes : {w' : List ℕ} {r' : Registers} (w₁ : List ℕ) → lower < 2147483648 → r.used + n ≤ 1024 → slots w₁ ≡ copied (slots w) (r.height - n) (728 + r.used) n → VectorPut (r.height - n) lower n w₁ r w' r' → Tried (build lower n) w r w' (Some r')
        build_yes {w'} {r'} w₁ small u p₁ v =
            let m = slots w in
            let a = r.height - n in
            let l = few n b g eb there in
            let room = wide w g.room in
            let m₁ = copied m a (728 + r.used) n in
            charged_tried a n (mk 3 r.used lower n 0) (Vector r.used lower n) _ m₁ g (omega arith) u (vector_entry r.used lower n (omega arith) small (omega arith)) (length_copied m a (728 + r.used) n)
            (same_copied m a (728 + r.used) n 0 _ (inr (omega arith))) (same_copied m a (728 + r.used) n 1752 1814 (inl (omega arith)))
            (values_moved m a (728 + r.used) n (omega arith) (inl (omega arith))) w' (rw p₁ at v.put) (build lower n) build_is (ap Some v.registers)

-- ---- MAKESIMPLECO

operator_entry : (o s l f : ℕ) → entry_in (mk 4 o s l f) ≡ val (Operator o s l f)
unfolding entry_in value_in
operator_entry o s l f = refl

module _ {w : List ℕ} {r : Registers} (s l : ℕ) (g : Busy w r) where
  compose_is : (c : Slot) → c ≡ get_or (slots w) (1752 + (r.depth - 1)) nil → compose s l (abs w r) ≡ limited (with_cells (val (Operator c.a s l r.used) ∷ stack_of (slots w) r.height) (values_at (slots w) 728 r.used ++ values_at (slots w) (frame_of c) 50) (abs w r))
  unfolding compose charge running context_in over
  compose_is c got = rw (length_values, contexts_at (slots w) r.depth c g.runs got, over_above (stack_of (slots w) r.height))

  pub compose_full : {r' : Perhaps} → 128 ≤ r.height → r' ≡ None → Tried (compose s l) w r w r'
  compose_full {r'} f q = charge_full (compose s l) _ _ g (compose_is _ refl) (omega (arith, length_stack (slots w) r.height)) q

  module _ (st : r.height < 128) where
    pub compose_over : {r' : Perhaps} → 1024 < r.used + 50 → r' ≡ None → Tried (compose s l) w r w r'
    compose_over {r'} f q = charge_over (compose s l) _ _ g (compose_is _ refl) (omega (arith, length_stack (slots w) r.height)) (omega (arith, cells_long w r.used (frame_of (get_or (slots w) (1752 + (r.depth - 1)) nil)) 50)) q

    pub compose_yes : {w' : List ℕ} {r' : Perhaps} (w₁ : List ℕ) (f : ℕ) (c : Slot) → r.used + 50 ≤ 1024 → c ≡ get_or (slots w) (1752 + (r.depth - 1)) nil → slots w₁ ≡ copied (slots w) (frame_of c) (728 + r.used) 50 → f ≡ r.used → slots w' ≡ set (slots w₁) r.height (mk 4 c.a s l f)
        → r' ≡ Some (trying r (r.height + 1) r.depth (r.used + 50)) → Tried (compose s l) w r w' r'
    compose_yes {w'} {r'} w₁ f c u got p₁ ef p q =
        let m = slots w in
        let a = frame_of c in
        let ends = frame_inside w r c g got in
        let room = wide w g.room in
        let m₁ = copied m a (728 + r.used) 50 in
        charged_tried r.height 50 (mk 4 c.a s l r.used) (Operator c.a s l r.used) _ m₁ g st u (operator_entry _ _ _ _) (length_copied m a (728 + r.used) 50)
        (same_copied m a (728 + r.used) 50 0 _ (inr (omega arith))) (same_copied m a (728 + r.used) 50 1752 1814 (inl (omega arith)))
        (values_moved m a (728 + r.used) 50 (omega arith) (inl (omega arith))) w' (rw (ef, p₁) at p) (compose s l) (compose_is c got) q

-- ---- a string

sets_out : (vs m : List Slot) (k i : ℕ) → (i < k) ⊎ (k + length vs ≤ i) → get_or (sets m k vs) i nil ≡ get_or m i nil
sets_out [] m k i o = refl
sets_out (v ∷ vs) m k i (inl l) = sets_out vs (set m k v) (suc k) i (inl (omega arith)) ∙ get_or-set_other m k i v nil (λ e. omega arith)
sets_out (v ∷ vs) m k i (inr l) = sets_out vs (set m k v) (suc k) i (inr (omega arith)) ∙ get_or-set_other m k i v nil (λ e. omega arith)

sets_values : (vs m : List Slot) (k : ℕ) → k + length vs ≤ length m → values_at (sets m k vs) k (length vs) ≡ map value_in vs
unfolding values_at asc
sets_values [] m k h = refl
sets_values (v ∷ vs) m k h =
    ap₂ ◌∷◌ (ap value_in (sets_out vs (set m k v) (suc k) k (inl (omega arith)) ∙ get_or-set_same m k v nil (omega arith)))
    (sets_values vs (set m k v) (suc k) (rw length-set (omega arith)))

pub letters_long : (d : List ℕ) → length (letter_slots d) ≡ length d
unfolding letter_slots
letters_long d = length-map d (λ (b : ℕ). mk 1 b 1 0 0)

letters_are : (d : List ℕ) → Bytes d → map value_in (letter_slots d) ≡ numbers d
unfolding letter_slots numbers value_in
letters_are [] f = refl
letters_are (b ∷ d) f = ap₂ ◌∷◌ (ap (λ z. Number (record { num = z; den = 1 })) (to_z_pos w32 {n = b} (omega (arith, f 0)))) (letters_are d (λ i. f (suc i)))

numbers_long : (d : List ℕ) → length (numbers d) ≡ length d
unfolding numbers
numbers_long [] = refl
numbers_long (b ∷ d) = ap suc (numbers_long d)

pub letters_show : Shows letter_slots
unfolding letter_slots
letters_show = record { none = refl; all = λ d e. map_append (λ (b : ℕ). mk 1 b 1 0 0) d e; each = letters_long }

pub no_letters : (d : List ℕ) (m : List Slot) (k : ℕ) → length d ≤ 0 → m ≡ sets m k (letter_slots d)
unfolding letter_slots
no_letters [] m k h = refl
no_letters (b ∷ d) m k h = absurd (omega arith)

-- so many data that fit are whole
fits_cells : (J : Joined) (n o : ℕ) → 0 < length (data_of J) → o + length (data_of J) ≤ n → FitsText n o J
unfolding data_of
fits_cells (whole d next) n o h l = l
fits_cells (cut_at place) n o h l = absurd (omega arith)

pub letters_fit : (w : List ℕ) (k n : ℕ) (J : Joined) → n ≡ length (data_of J) → (n ≡ 0 → ⊥) → 20 * (k + n) ≤ length w → FitsText (length (slots w)) k J
letters_fit w k n J e z h = fits_cells J (length (slots w)) k (omega arith) (omega (arith, roomy (k + n) w h))

pub sets_long : (m m' : List Slot) (k : ℕ) (vs : List Slot) → m' ≡ sets m k vs → length m' ≡ length m
sets_long m m' k vs e = rw e (length-sets m k vs)

-- the byte at f is stored next
pub letter_next : (m : List Slot) (k : ℕ) (x : List ℕ) (f t : ℕ) → f < t → t ≤ length x → sets m k (letter_slots (slice f t x)) ≡ sets (set m k (mk 1 (get_or x f 0) 1 0 0)) (suc k) (letter_slots (slice (suc f) t x))
unfolding letter_slots
letter_next m k x f t h l = ap (λ (d : List ℕ). sets m k (map (λ (b : ℕ). mk 1 b 1 0 0) d)) (slice-cons f t x 0 h l)

module _ {w : List ℕ} {r : Registers} (b : List ℕ) (at n : ℕ) (g : Busy w r) (en : n ≡ length (data_of (joined_at b at))) where
  spelt : List Value
  spelt = numbers (data_of (joined_at b at))

  spell_is : spell b at (abs w r) ≡ limited (with_cells (val (Vector r.used 0 n) ∷ stack_of (slots w) r.height) (values_at (slots w) 728 r.used ++ spelt) (abs w r))
  unfolding spell charge letters_at over spelt
  spell_is = rw (length_values, numbers_long, ← en, over_above (stack_of (slots w) r.height))

  pub spell_full : {r' : Perhaps} → 128 ≤ r.height → r' ≡ None → Tried (spell b at) w r w r'
  spell_full {r'} f q = charge_full (spell b at) _ _ g spell_is (omega (arith, length_stack (slots w) r.height)) q

  module _ (st : r.height < 128) where
    pub spell_over : {r' : Perhaps} → 1024 - r.used < n → r' ≡ None → Tried (spell b at) w r w r'
    unfolding spelt
    spell_over {r'} f q =
        let l : length (values_at (slots w) 728 r.used ++ numbers (data_of (joined_at b at))) ≡ r.used + n = rw (length-append, length_values (slots w) 728 r.used, numbers_long) (ap (λ k. r.used + k) (sym en)) in
        charge_over (spell b at) _ _ g spell_is (omega (arith, length_stack (slots w) r.height)) (omega arith) q

    module _ (ok : n ≤ 1024 - r.used) (bytes : Bytes b) where
      pub spell_yes : {w' : List ℕ} {r' : Registers} (w₁ : List ℕ) → slots w₁ ≡ sets (slots w) (728 + r.used) (letter_slots (data_of (joined_at b at))) → VectorPut r.height 0 n w₁ r w' r' → Tried (spell b at) w r w' (Some r')
      unfolding spelt
      spell_yes {w'} {r'} w₁ p₁ v =
          let m = slots w in
          let d = data_of (joined_at b at) in
          let k = 728 + r.used in
          let vs = letter_slots d in
          let room = wide w g.room in
          let l : length vs ≡ n = letters_long d ∙ sym en in
          let made : values_at (sets m k vs) k n ≡ numbers d =
          ap (values_at (sets m k vs) k) (sym l) ∙ sets_values vs m k (omega arith) ∙ letters_are d (data_bytes b at bytes) in
          charged_tried r.height n (mk 3 r.used 0 n 0) (Vector r.used 0 n) _ (sets m k vs) g st (omega arith) (vector_entry r.used 0 n (omega arith) (omega arith) (omega arith)) (length-sets m k vs)
          (λ i s t. sets_out vs m k i (inl t)) (λ i s t. sets_out vs m k i (inr (omega arith))) made w' (rw p₁ at v.put) (spell b at) spell_is (ap Some v.registers)
