-- An invariant of states: a claim of every operator value wherever it stands, and one of what is left of every body in progress. An effect
-- whose bodies are claimed keeps it. In order: the claims; the engine's work; frames, marks and bodies; an effect. Assumes nothing.
use Rattle.std.specs.Prelude.{Option, Some, None}
use Prim.Native.Nat.{ℕ, ◌+◌, ◌-◌, ◌≤◌}
use native.Mathlib.Omega.{arith}
use mathlib.Core.Path.{◌≡◌, refl}
use mathlib.Core.Bool.{Bool, true}
use mathlib.Core.List.{List, [], ◌∷◌, ◌++◌, reverse}
use lib.ListN.{length, take, drop, get_or, length-append, length-take, length-reverse_aux}
use borrow.Author.Tests.{leb-true}
use Rattle.machine.specs.declared.Value.{Value}
use Rattle.machine.specs.declared.Work.{Work}
use Rattle.machine.specs.declared.Work.TheVariants.{Nothing, Fetch, Element, Build, Spell, Utter, Compose, Repeat, Turn, Match, Report}
use Rattle.machine.specs.declared.Next.{Next}
use Rattle.machine.specs.declared.Next.TheVariants.{Works, Inline, Call, Store, Place, Remove, Tally}
use Rattle.machine.specs.declared.Effect.{Effect}
use Rattle.machine.specs.declared.Effect.TheVariants.{Gives, Gives2, Acts}
use Rattle.machine.specs.Limits.{frame_size}
use Rattle.machine.specs.State.{Entry, val, mark, Context, State, zero, running}
use Rattle.machine.specs.Skeleton.{solid}
use Rattle.machine.specs.Literal.{Code, bytes_of, letters_at, numbers}
use Rattle.machine.specs.Contexts.{beneath, over}
use Rattle.machine.specs.Engine.{with_stack, values, with_values, has, pops, push, bit, charge, build, spell, compose, repeat, turn, worked, noted, store_in, store, place, remove_at, remove, tally_at, tally, context_of, enter, inline, call, does, affected}
use Rattle.machine.proofs.Changes.{OnSome, limited_on, provided_on}
use Rattle.machine.proofs.Throughout.{Pointing, All, OnStack, Throughout, all_append, all_take, all_drop, all_at, all_reverse, above_all, beneath_on, over_on, running_all, last_all, stored_frames, pointing_weaker, all_weaker, stack_weaker, frames_weaker}
use Rattle.machine.proofs.Effects.{Bodies}

-- ---- the claims

-- of an operator value (its origin, start, length and the first cell of its frame) among the cells; of a body (its origin, start and
-- length); of what is left of one (its origin, place and end)
pub record Claim (code : Code) : Type 1 where
  pub OfOperator : List Value → ℕ → ℕ → ℕ → ℕ → Type 0
  pub OfBody : ℕ → ℕ → ℕ → Type 0
  pub OfRest : ℕ → ℕ → ℕ → Type 0
  pub grows : (cells new : List Value) (origin start len first : ℕ) → OfOperator cells origin start len first → OfOperator (cells ++ new) origin start len first
  pub made : (cells frame : List Value) (origin start len : ℕ) → length frame ≡ frame_size → OfBody origin start len → OfOperator (cells ++ frame) origin start len (length cells)
  pub points : (cells : List Value) (origin start len first : ℕ) → OfOperator cells origin start len first → OfBody origin start len
  pub opens : (origin start len : ℕ) → OfBody origin start len → OfRest origin (solid (bytes_of code origin) start) (start + len)

abbrev pub OfValue : {code : Code} → Claim code → List Value → Value → Type 0
OfValue K cells v = Pointing (length cells) (K.OfOperator cells) v

abbrev pub OfContext : {code : Code} → Claim code → Context → Type 0
OfContext K c = K.OfRest c.origin c.at c.end

pub record Held {code : Code} (K : Claim code) (s : State) : Type 0 where
  pub values_are : Throughout (OfValue K s.cells) s
  pub contexts_are : All (OfContext K) s.contexts

module _ (code : Code) (K : Claim code) where
  numbers_held : (cells : List Value) (l : List ℕ) → All (OfValue K cells) (numbers l)
  unfolding numbers
  numbers_held cells [] = tt
  numbers_held cells (n ∷ ns) = (tt, numbers_held cells ns)

  module _ (s : State) (h : Held K s) where
    abbrev Ok : Value → Type 0
    Ok v = OfValue K s.cells v

    -- ---- the engine's work

    pub values_held : All Ok (values s)
    values_held = above_all Ok s.stack h.values_are.entries_are

    taken : (n : ℕ) → All Ok (take n (values s))
    taken n = all_take Ok n (values s) values_held

    dropped : (n : ℕ) → All Ok (drop n (values s))
    dropped n = all_drop Ok n (values s) values_held

    frame_held : All Ok (running s.contexts).frame
    frame_held = running_all Ok s.contexts h.values_are.frames_are

    -- another stack
    on_stack : (l : List Entry) → OnStack Ok l → Held K (with_stack l s)
    on_stack l g = record {
      values_are = record { entries_are = g; frames_are = h.values_are.frames_are; frame_is = h.values_are.frame_is; cells_are = h.values_are.cells_are };
      contexts_are = h.contexts_are;
    }

    with_values_lem : (vs : List Value) → All Ok vs → Held K (with_values vs s.cells s)
    with_values_lem vs g = on_stack _ (over_on Ok vs (beneath s.stack) g (beneath_on Ok s.stack h.values_are.entries_are))

    pub pops_held : (n : ℕ) → Held K (pops n s)
    unfolding pops
    pops_held n = with_values_lem (drop n (values s)) (dropped n)

    push_held : (v : Value) → Ok v → OnSome (Held K) (push v s)
    unfolding push
    push_held v g = limited_on _ _ (λ _. on_stack _ (g, h.values_are.entries_are))

    charge_held : (new : List Value) (n : ℕ) (v : Value) → All Ok new → OfValue K (s.cells ++ new) v → OnSome (Held K) (charge new n v s)
    unfolding charge
    charge_held new n v g k =
        let M : Value → Type 0 = λ w. OfValue K (s.cells ++ new) w in
        let up : (w : Value) → Ok w → M w = pointing_weaker _ _ (omega (arith, length-append s.cells new)) _ _ (K.grows s.cells new) in
        let t = h.values_are in
        limited_on _ _ (λ _. record {
          values_are = record {
            entries_are = over_on M (v ∷ drop n (values s)) (beneath s.stack) (k, all_weaker Ok M up (drop n (values s)) (dropped n))
                (stack_weaker Ok M up (beneath s.stack) (beneath_on Ok s.stack t.entries_are));
            frames_are = frames_weaker Ok M up s.contexts t.frames_are;
            frame_is = all_weaker Ok M up s.frame t.frame_is;
            cells_are = all_weaker Ok M up (s.cells ++ new) (all_append Ok s.cells new t.cells_are g);
          };
          contexts_are = h.contexts_are;
        })

    -- n values become n cells
    built : (n : ℕ) → has n s ≡ true → length s.cells + n ≤ length (s.cells ++ reverse (take n (values s)))
    built n p =
        let vs : List Value = take n (values s) in
        omega (arith, length-append s.cells (reverse vs), length-reverse_aux vs [], length-take n (values s), leb-true n (length (values s)) p)

    module _ (framed : length (running s.contexts).frame ≡ frame_size) where
      worked_held : (w : Work) → Bodies K.OfBody (running s.contexts).origin (Some (Acts (Works w))) → OnSome (Held K) (worked code w s)
      unfolding worked build spell compose repeat turn bit letters_at
      worked_held Nothing b = limited_on _ _ (λ _. h)
      worked_held (Fetch j) b = push_held _ (all_at Ok (running s.contexts).frame j zero frame_held tt)
      worked_held (Element cell) b = push_held _ (all_at Ok s.cells cell zero h.values_are.cells_are tt)
      worked_held (Build lower n) b = provided_on _ _ _ (λ p. charge_held _ n _ (all_reverse Ok (take n (values s)) (taken n)) (built n p))
      worked_held (Spell start) b =
          let l : List Value = letters_at (bytes_of code (running s.contexts).origin) start in
          charge_held l 0 _ (numbers_held s.cells _) (omega (arith, length-append s.cells l))
      worked_held (Utter start len) b = push_held _ tt
      worked_held (Compose start len) b = charge_held _ 0 _ frame_held (K.made s.cells (running s.contexts).frame _ start len framed (b.composes start len refl))
      worked_held (Repeat n) b = provided_on _ _ _ (λ _. limited_on _ _ (λ _. with_values_lem _ (all_append Ok (take n (values s)) (values s) (taken n) values_held)))
      worked_held (Turn n m) b =
          let vs = values s in
          provided_on _ _ _ (λ _. limited_on _ _ (λ _. with_values_lem _ (all_append Ok (drop (n - m) (take n vs)) (take (n - m) vs ++ drop n vs)
          (all_drop Ok (n - m) (take n vs) (taken n)) (all_append Ok (take (n - m) vs) (drop n vs) (taken (n - m)) (dropped n)))))
      worked_held (Match v w) b = push_held _ tt
      worked_held (Report v) b = provided_on _ _ _ (λ _. limited_on _ _ (λ _. h))

    -- ---- the running frame, marks, bodies entered

    stored_contexts : (j : ℕ) (v : Value) (cs : List Context) → All (OfContext K) cs → All (OfContext K) (store_in j v cs)
    unfolding store_in
    stored_contexts j v [] g = tt
    stored_contexts j v (c ∷ cs) g = g

    store_held : (j : ℕ) → OnSome (Held K) (store j s)
    unfolding store noted pops
    store_held j =
        let t = h.values_are in
        let v = get_or (values s) 0 zero in
        let f = stored_frames Ok j v s.contexts (all_at Ok (values s) 0 zero values_held tt) t.frames_are in
        provided_on _ _ _ (λ _. limited_on (Held K) _ (λ _. record {
          values_are = record {
            entries_are = (pops_held 1).values_are.entries_are;
            frames_are = f;
            frame_is = last_all Ok s.frame (store_in j v s.contexts) t.frame_is f;
            cells_are = t.cells_are;
          };
          contexts_are = stored_contexts j v s.contexts h.contexts_are;
        }))

    place_held : (n : ℕ) → OnSome (Held K) (place n s)
    unfolding place
    place_held n =
        let low : List Entry = over (drop n (values s)) (beneath s.stack) in
        provided_on _ _ _ (λ _. limited_on _ _ (λ _. on_stack _ (over_on Ok (take n (values s)) (mark (running s.contexts).id ∷ low) (taken n)
        (with_values_lem (drop n (values s)) (dropped n)).values_are.entries_are)))

    removed_held : (id n : ℕ) (t : List Entry) → OnStack Ok t → OnSome (Held K) (remove_at id n (values s) t s)
    unfolding remove_at
    removed_held id n [] g = tt
    removed_held id n (val v ∷ t) g = tt
    removed_held id n (mark k ∷ t) g = provided_on _ _ _ (λ _. limited_on _ _ (λ _. on_stack _ (over_on Ok (values s) t values_held g)))

    tallied_held : (id n : ℕ) (t : List Entry) → OnSome (Held K) (tally_at id n t s)
    unfolding tally_at
    tallied_held id n [] = tt
    tallied_held id n (val v ∷ t) = tt
    tallied_held id n (mark k ∷ t) = provided_on _ _ _ (λ _. push_held _ tt)

    enter_held : (origin start len : ℕ) (owes : Bool) (frame : List Value) → K.OfBody origin start len → All Ok frame → OnSome (Held K) (enter (context_of code origin start len owes frame s) s)
    unfolding enter context_of
    enter_held origin start len owes frame b f =
        let t = h.values_are in
        limited_on _ _ (λ _. record {
          values_are = record { entries_are = t.entries_are; frames_are = (f, t.frames_are); frame_is = t.frame_is; cells_are = t.cells_are };
          contexts_are = (K.opens origin start len b, h.contexts_are);
        })

    -- ---- an effect

    module _ (framed : length (running s.contexts).frame ≡ frame_size) where
      does_held : (x : Next) → Bodies K.OfBody (running s.contexts).origin (Some (Acts x)) → OnSome (Held K) (does code x s)
      unfolding does inline call remove tally
      does_held (Works w) b = worked_held framed w b
      does_held (Inline start len owes) b = enter_held _ start len owes _ (b.enters start len owes refl) frame_held
      does_held (Call origin start len first) b =
          provided_on _ _ _ (λ _. enter_held origin start len _ _ (b.calls origin start len first refl) (all_take Ok frame_size (drop first s.cells) (all_drop Ok first s.cells h.values_are.cells_are)))
      does_held (Store j) b = store_held j
      does_held (Place n) b = place_held n
      does_held (Remove n) b = removed_held _ n (beneath s.stack) (beneath_on Ok s.stack h.values_are.entries_are)
      does_held Tally b = tallied_held _ _ _

      pub affected_held : (e : Option Effect) → Bodies K.OfBody (running s.contexts).origin e → OnSome (Held K) (affected code e s)
      unfolding affected push
      affected_held None b = tt
      affected_held (Some (Gives a)) b = push_held _ tt
      affected_held (Some (Gives2 a b)) c = limited_on _ _ (λ _. on_stack _ (tt, (tt, h.values_are.entries_are)))
      affected_held (Some (Acts x)) b = does_held x b
