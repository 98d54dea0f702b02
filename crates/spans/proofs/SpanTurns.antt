-- The pass over a body and the bodies inside it, a turn at a time, and the notes that it leaves. In order: room for literals; the rest of the
-- work; the bodies that are open; the notes. Assumes nothing.
use Rattle.std.specs.Prelude.{Result, Ok, Err}
use Rattle.tokens.specs.Refusal.{refusal_at}
use Rattle.tokens.specs.declared.Refused.{Refused}
use mathlib.Core.Path.{◌≡◌, refl, sym, ap, ◌∙◌}
use mathlib.Core.Bool.{Bool, true, false, cond, false≢true}
use mathlib.Core.List.{List}
use Prim.Native.Nat.{ℕ, zero, suc, ◌+◌, ◌-◌, ◌*◌, ◌%◌, ◌<◌, ◌≤◌}
use native.Mathlib.Nat.{mod-lt}
use native.Mathlib.Omega.{arith}
use lib.Dec.{ltb, lit<}
use lib.ListN.{length, get_or, set, replicate, length-set, length-replicate}
use lib.Seq.{get_or-set_same, get_or-set_other}
use Rattle.numbers.proofs.Cond.{either, split}
use Rattle.tokens.specs.declared.Refusal.{Refusal}
use Rattle.tokens.specs.declared.Refusal.TheVariants.{NotAllowed, TooDeep}
use Rattle.tokens.specs.declared.Read.{Read}
use Rattle.tokens.proofs.Theorems.{token_end}
use Rattle.machine.specs.declared.Passed.{Passed}
use Rattle.machine.specs.declared.Passed.TheVariants.{On, Closed}
use Rattle.machine.specs.Limits.{most_open}
use Rattle.machine.specs.declared.Role.{Role}
use Rattle.machine.specs.declared.Role.TheVariants as role
use Rattle.machine.specs.Skeleton.{opening, holders, barred, one_of, role_of, solid, follow, and_then, held, passing}
use Rattle.machine.specs.Skeleton.{due_by, due, literal_by, literals_from, body_at, literal_at}
use Rattle.machine.proofs.Inside.{EndsIn, token_inside, PassedIn, literal_later}
use Rattle.machine.specs.Readable.{NoComment}
use Rattle.machine.proofs.Comments.{one_at, solid_is, comments_are}
use Rattle.machine.proofs.TokenLocal.{judged_all}
use Rattle.machine.proofs.Bodies.{body_later, body_ends}
use Rattle.machine.proofs.BodyLocal.{body_more}
use Rattle.spans.specs.Memo.{Noted, with_note, Seen, BodyEnds}
use Rattle.nesting.proofs.BodyTurns.{turn, entered, due_there, stands_at}
use borrow.Author.Tests.{lt-ltb, ne_eqb, ltb-true, ltb-false}
use Rattle.tokens.specs.declared.Read.TheVariants as read
use Rattle.tokens.specs.Joined.{Joined, whole, cut_at, joined_at}
use Rattle.tokens.specs.Token.{sequence, token_at, token_of}
use Rattle.tokens.specs.Passing.{pass_of}
use Rattle.tokens.specs.declared.Form.TheVariants as form
use Rattle.passing.specs.Known.{Reads}
use Rattle.passing.proofs.Knowing.{past_operator, operator_pair}

-- ---- room for literals

-- past the end nothing follows
at_end_lem : (m : ℕ) (s : List ℕ) (p : ℕ) (f g : ℕ → Result ℕ Refused) → length s ≤ p → and_then (literal_at m s p) f ≡ and_then (literal_at m s p) g
unfolding literal_by and_then
at_end_lem m s p f g h = rw (token_end s p h)

then_alike : (n p : ℕ) (x : Result Passed Refused) (f g : ℕ → Result ℕ Refused) → PassedIn n p x → ((next : ℕ) → p < next → f next ≡ g next)
    → and_then x f ≡ and_then x g
unfolding and_then
then_alike n p (Ok (On next)) f g h e = e next h.0
then_alike n p (Ok (Closed next)) f g h e = refl
then_alike n p (Err w) f g h e = refl

-- room for as many literals as bytes are left is enough
enough : (m k l : ℕ) (s : List ℕ) (p : ℕ) → length s ≤ p + k → length s ≤ p + l → literals_from k (literal_at m s) p ≡ literals_from l (literal_at m s) p
unfolding literals_from
enough m zero l s p h i = turn m zero s p h ∙ at_end_lem m s p _ _ (omega arith) ∙ sym (turn m l s p i)
enough m (suc k) l s p h i =
    then_alike (length s) p (literal_at m s p) _ _ (literal_later m s p) (λ next g. enough m k (l - 1) s next (omega arith) (omega arith))
    ∙ sym (turn m l s p i)

-- ---- the rest of the work

-- the literals from p on, up to the `}` of a body in which k more may be open
abbrev pub to_close : ℕ → List ℕ → ℕ → Result ℕ Refused
to_close k s p = literals_from (length s) (literal_at k s) p

-- and then the literals of the n bodies around it
unfoldable pub rest : ℕ → ℕ → List ℕ → ℕ → Result ℕ Refused
rest zero k s p = to_close k s p
rest (suc n) k s p = follow (to_close k s p) (rest n (suc k) s)

follow_after : (w : Result ℕ Refused) (f g : ℕ → Result ℕ Refused) → follow (follow w f) g ≡ follow w (λ q. follow (f q) g)
unfolding follow
follow_after (Ok next) f g = refl
follow_after (Err w) f g = refl

module _ (k : ℕ) (s : List ℕ) (p : ℕ) where
  first_turn : to_close k s p ≡ and_then (literal_at k s p) (literals_from (length s - 1) (literal_at k s))
  first_turn = turn k (length s) s p (omega arith)

  close_on : (next : ℕ) → literal_at k s p ≡ Ok (On next) → to_close k s p ≡ to_close k s next
  unfolding and_then
  close_on next e =
      let g : PassedIn (length s) p (Ok (On next)) = rw e at (literal_later k s p) in
      (rw e at first_turn) ∙ enough k (length s - 1) (length s) s next (omega (arith, g.0)) (omega arith)

  close_ends : (next : ℕ) → literal_at k s p ≡ Ok (Closed next) → to_close k s p ≡ Ok next
  unfolding and_then
  close_ends next e = first_turn ∙ rw e

  close_stops : (refusal : Refusal) (place : ℕ) → literal_at k s p ≡ Err (refusal_at refusal place) → to_close k s p ≡ Err (refusal_at refusal place)
  unfolding and_then
  close_stops refusal place e = first_turn ∙ rw e

  close_holds : (w : Result ℕ Refused) → literal_at k s p ≡ held w → to_close k s p ≡ follow w (to_close k s)
  unfolding held follow
  close_holds (Ok next) e = close_on next e
  close_holds (Err w) e = close_stops w.refusal w.place e

  rest_on : (next : ℕ) → literal_at k s p ≡ Ok (On next) → (n : ℕ) → rest n k s p ≡ rest n k s next
  unfolding rest
  rest_on next e zero = close_on next e
  rest_on next e (suc n) = ap (λ (w : Result ℕ Refused). follow w (rest n (suc k) s)) (close_on next e)

  rest_stops : (refusal : Refusal) (place : ℕ) → literal_at k s p ≡ Err (refusal_at refusal place) → (n : ℕ) → rest n k s p ≡ Err (refusal_at refusal place)
  unfolding rest follow
  rest_stops refusal place e zero = close_stops refusal place e
  rest_stops refusal place e (suc n) = ap (λ (w : Result ℕ Refused). follow w (rest n (suc k) s)) (close_stops refusal place e)

  rest_ends : (next : ℕ) → literal_at k s p ≡ Ok (Closed next) → rest zero k s p ≡ Ok next
  unfolding rest
  rest_ends next e = close_ends next e

  rest_closes : (next : ℕ) → literal_at k s p ≡ Ok (Closed next) → (n : ℕ) → rest (suc n) k s p ≡ rest n (suc k) s next
  unfolding rest follow
  rest_closes next e n = ap (λ (w : Result ℕ Refused). follow w (rest n (suc k) s)) (close_ends next e)

  rest_holds : (w : Result ℕ Refused) → literal_at k s p ≡ held w → (n : ℕ) → rest n k s p ≡ follow w (rest n k s)
  unfolding rest
  rest_holds w e zero = close_holds w e
  rest_holds w e (suc n) = ap (λ (v : Result ℕ Refused). follow v (rest n (suc k) s)) (close_holds w e) ∙ follow_after w (to_close k s) (rest n (suc k) s)

-- past its `{` a body goes as its literals do
body_opens : (k : ℕ) (s : List ℕ) (y next : ℕ) → 0 < k → due opening s y ≡ Ok next → body_at k s y ≡ rest 0 (k - 1) s next
unfolding rest
body_opens k s y next l e = sym (entered k s y next e l)

rest_opens : (k n : ℕ) (s : List ℕ) (y next : ℕ) → 0 < k → due opening s y ≡ Ok next → follow (body_at k s y) (rest n k s) ≡ rest (suc n) (k - 1) s next
unfolding rest
rest_opens k n s y next l e =
    let z : suc (k - 1) ≡ k = omega arith in
    ap (λ (w : Result ℕ Refused). follow w (rest n k s)) (sym (entered k s y next e l)) ∙ ap (λ (j : ℕ). follow (to_close (k - 1) s next) (rest n j s)) (sym z)

-- ---- a token where a literal, or a body, is due

body_stops : (k : ℕ) (s : List ℕ) (y : ℕ) (refusal : Refusal) (place : ℕ) → due opening s y ≡ Err (refusal_at refusal place)
    → body_at k s y ≡ Err (refusal_at refusal place)
unfolding body_at follow
body_stops zero s y refusal place e = rw e
body_stops (suc k) s y refusal place e = rw e

body_deep : (s : List ℕ) (y next : ℕ) → due opening s y ≡ Ok next → body_at 0 s y ≡ Err (refusal_at TooDeep (solid s y))
unfolding body_at follow
body_deep s y next e = rw e

-- a body is due past a comment as it is before
body_comment : (k : ℕ) (s : List ℕ) (y next : ℕ) → token_at s y ≡ Ok (read.Comment next) → body_at k s y ≡ body_at k s next
unfolding body_at due
body_comment zero s y next e = rw (solid_is s y (solid s next) (one_at e (comments_are s next)))
body_comment (suc k) s y next e = rw (solid_is s y (solid s next) (one_at e (comments_are s next)))

-- neither `{` nor `}`
abbrev pub NoBrace : Result Read Refused → Type 0
NoBrace (Ok (read.Number value next)) = Unit
NoBrace (Ok (read.Identifier len next)) = Unit
NoBrace (Ok (read.String count next)) = Unit
NoBrace (Ok (read.Operator n next)) = (n ≡ 106 → ⊥) × (n ≡ 107 → ⊥)
NoBrace (Ok (read.Comment next)) = Unit
NoBrace (Err w) = Unit

role_closes : (n : ℕ) → (n ≡ 107 → ⊥) → role_of n ≡ role.Closes → ⊥
unfolding role_of
role_closes n f e = by_tests (one_of holders n) (one_of barred n) (rw (ne_eqb n 107 f) at e)
  where
    by_tests : (b c : Bool) → cond b role.Holds (cond c role.Barred role.Plain) ≡ role.Closes → ⊥
    by_tests true c h = false≢true (cc)
    by_tests false true h = false≢true (cc)
    by_tests false false h = false≢true (cc)

module _ (s : List ℕ) (p : ℕ) where
  due_here : (t : Result Read Refused) → token_at s p ≡ t → NoComment t → due opening s p ≡ due_by opening p t
  due_here t e c = due_there opening s p p (due_by opening p t) (stands_at s p (rw e c)) (rw e)

  module _ (m n next : ℕ) (e : token_at s p ≡ Ok (read.Operator n next)) where
    operator_literal : literal_at m s p ≡ passing (role_of n) p (body_at m s) next
    unfolding literal_by
    operator_literal = rw e

    open_literal : n ≡ 106 → literal_at m s p ≡ Err (refusal_at NotAllowed p)
    unfolding passing role_of one_of
    open_literal z = rw z at operator_literal

    close_literal : n ≡ 107 → literal_at m s p ≡ Ok (Closed next)
    unfolding passing role_of
    close_literal z = rw z at operator_literal

    open_due : n ≡ 106 → due opening s p ≡ Ok next
    unfolding due_by
    open_due z = rw z at (due_here (Ok (read.Operator n next)) e tt)

    other_due : (n ≡ 106 → ⊥) → due opening s p ≡ Err (refusal_at NotAllowed p)
    unfolding due_by
    other_due f = rw (ne_eqb n 106 f) at (due_here (Ok (read.Operator n next)) e tt)

-- ---- the bodies that are open

-- so many bodies are open, the `{` of each where `starts` says, the first that of the body due at `at`; with n bodies around, what is left to do
-- ends as w n says
pub record Pending (s starts : List ℕ) (at count : ℕ) (w : ℕ → Result ℕ Refused) : Type 0 where
  pub few : count ≤ 16
  pub long : length starts ≡ 16
  pub first : 0 < count → body_at most_open s (get_or starts 0 0) ≡ body_at most_open s at
  pub each : (j : ℕ) → j < count → body_at (16 - j) s (get_or starts j 0) ≡ w (count - 1 - j)

-- the literals from p on are due
abbrev Within : List ℕ → List ℕ → ℕ → ℕ → ℕ → Type 0
Within s starts at count p = (0 < count) × Pending s starts at count (λ n. rest n (16 - count) s p)

-- a body is due at y, and then what follows it
abbrev Awaits : List ℕ → List ℕ → ℕ → ℕ → ℕ → Type 0
Awaits s starts at count y =
    (count ≡ 0 → body_at most_open s y ≡ body_at most_open s at)
    × Pending s starts at count (λ n. follow (body_at (16 - count) s y) (rest n (16 - count) s))

-- one or the other: what stands at p is a literal, a comment or a brace of one of these bodies
pub data Where (s starts : List ℕ) (at count p : ℕ) : Type 0 where
  in_body : Within s starts at count p → Where s starts at count p
  before_body : Awaits s starts at count p → Where s starts at count p

-- bodies around, counted where one body more is open, and where one is closed
more_around : (count j : ℕ) → j < count → suc (count - 1 - j) ≡ count + 1 - 1 - j
more_around count j h = omega arith

fewer_around : (count j : ℕ) → j < count - 1 → count - 1 - j ≡ suc (count - 1 - 1 - j)
fewer_around count j h = omega arith

inner_among : (count j : ℕ) → j < count - 1 → j < count
inner_among count j h = omega arith

fewer_open : (count : ℕ) → 0 < count → count ≤ 16 → suc (16 - count) ≡ 16 - (count - 1)
fewer_open count h i = omega arith

pub where_first : (s : List ℕ) (at : ℕ) → Where s (replicate 16 0) at 0 at
where_first s at =
    before_body (
      (λ _. refl),
      record {
        few = omega arith;
        long = length-replicate {A = ℕ} 16 0;
        first = λ l. absurd (omega arith);
        each = λ j l. absurd (omega arith);
      },
    )

over_same : {x next : ℕ} → ◌≡◌ {A = Result ℕ Refused} (Ok x) (Ok next) → x ≡ next
over_same e = cc

never_stops : {w : Result ℕ Refused} {end : ℕ} (refusal : Refusal) (place : ℕ) → w ≡ Ok end → w ≡ Err (refusal_at refusal place) → ⊥
never_stops refusal place e f = false≢true (cc)

module _ {s starts : List ℕ} {at count : ℕ} where
  pending_as : {w v : ℕ → Result ℕ Refused} → Pending s starts at count w → ((n : ℕ) → w n ≡ v n) → Pending s starts at count v
  pending_as i e = record { few = i.few; long = i.long; first = i.first; each = λ j l. i.each j l ∙ e (count - 1 - j) }

  pub few_where : (p : ℕ) → Where s starts at count p → (count ≤ 16) × (length starts ≡ 16)
  few_where p (in_body i) = (i.1.few, i.1.long)
  few_where p (before_body i) = (i.1.few, i.1.long)

  -- the body is known to end
  module _ (ends : BodyEnds s at) where
    pending_goes : {w : ℕ → Result ℕ Refused} (refusal : Refusal) (place : ℕ) → Pending s starts at count w → 0 < count
        → ((n : ℕ) → w n ≡ Err (refusal_at refusal place)) → ⊥
    pending_goes refusal place i l e = never_stops refusal place ends.1 (sym (i.first l) ∙ i.each 0 l ∙ e (count - 1 - 0))

    module _ (y : ℕ) (i : Awaits s starts at count y) where
      awaits_goes : (refusal : Refusal) (place : ℕ) → body_at (16 - count) s y ≡ Err (refusal_at refusal place) → ⊥
      unfolding follow
      awaits_goes refusal place e =
          split 0 count (λ l. pending_goes refusal place i.1 l (λ n. rw e))
          (λ l. let z : count ≡ 0 = omega arith in never_stops refusal place ends.1 (sym (i.0 z) ∙ rw z at e))

      due_goes : (refusal : Refusal) (place : ℕ) → due opening s y ≡ Err (refusal_at refusal place) → ⊥
      due_goes refusal place e = awaits_goes refusal place (body_stops (16 - count) s y refusal place e)

      awaits_room : (next : ℕ) → due opening s y ≡ Ok next → 0 < 16 - count
      awaits_room next e =
          split 0 (16 - count) (λ l. l)
          (λ l. let z : 16 - count ≡ 0 = omega arith in absurd (awaits_goes TooDeep (solid s y) (rw z (body_deep s y next e))))

      module _ (next : ℕ) (e : due opening s y ≡ Ok next) where
        opens_each : (j : ℕ) → j < count + 1 → body_at (16 - j) s (get_or (set starts count y) j 0) ≡ rest (count + 1 - 1 - j) (16 - (count + 1)) s next
        opens_each j h =
            let l = awaits_room next e in
            let m : 16 - count - 1 ≡ 16 - (count + 1) = omega arith in
            let o = rest_opens (16 - count) (count - 1 - j) s y next l e in
            split j count
            (λ g. ap (body_at (16 - j) s) (get_or-set_other starts count j y 0 (λ z. omega arith)) ∙ i.1.each j g ∙ o
            ∙ ap (λ (x : ℕ). rest x (16 - count - 1) s next) (more_around count j g) ∙ ap (λ (x : ℕ). rest (count + 1 - 1 - j) x s next) m)
            (λ g. let z : j ≡ count = omega arith in
            let n : 0 ≡ count + 1 - 1 - count = omega arith in
            rw z (ap (body_at (16 - count) s) (get_or-set_same starts count y 0 (omega (arith, i.1.long, l))) ∙ body_opens (16 - count) s y next l e
            ∙ ap (λ (x : ℕ). rest x (16 - count - 1) s next) n ∙ ap (λ (x : ℕ). rest (count + 1 - 1 - count) x s next) m))

        awaits_opens : Within s (set starts count y) at (count + 1) next
        awaits_opens =
            let l = awaits_room next e in (
              omega arith,
              record {
                few = omega (arith, l);
                long = length-set starts count y ∙ i.1.long;
                first = λ _. split 0 count (λ g. ap (body_at most_open s) (get_or-set_other starts count 0 y 0 (λ z. omega arith)) ∙ i.1.first g)
                    (λ g. let z : count ≡ 0 = omega arith in rw z (ap (body_at most_open s) (get_or-set_same starts 0 y 0 (omega (arith, i.1.long))) ∙ i.0 z));
                each = opens_each;
              },
            )

    module _ (p : ℕ) (i : Within s starts at count p) where
      within_goes : (refusal : Refusal) (place : ℕ) → literal_at (16 - count) s p ≡ Err (refusal_at refusal place) → ⊥
      within_goes refusal place e = pending_goes refusal place i.1 i.0 (rest_stops (16 - count) s p refusal place e)

      within_on : (next : ℕ) → literal_at (16 - count) s p ≡ Ok (On next) → Within s starts at count next
      within_on next e = (i.0, pending_as i.1 (rest_on (16 - count) s p next e))

      within_holds : (y : ℕ) → literal_at (16 - count) s p ≡ held (body_at (16 - count) s y) → Awaits s starts at count y
      within_holds y e = ((λ z. absurd (omega (arith, i.0))), pending_as i.1 (rest_holds (16 - count) s p (body_at (16 - count) s y) e))

      module _ (next : ℕ) (e : literal_at (16 - count) s p ≡ Ok (Closed next)) where
        -- the innermost body has ended, whatever may be open
        within_ends : body_at most_open s (get_or starts (count - 1) 0) ≡ Ok next
        within_ends =
            let n : count - 1 - (count - 1) ≡ 0 = omega arith in
            body_more s (16 - (count - 1)) 16 (get_or starts (count - 1) 0) next (omega arith)
            (i.1.each (count - 1) (omega (arith, i.0)) ∙ rw n (rest_ends (16 - count) s p next e))

        within_last : count - 1 ≡ 0 → body_at most_open s at ≡ Ok next
        within_last z = sym (i.1.first i.0) ∙ rw z at within_ends

        within_closes : (count - 1 ≡ 0 → ⊥) → Within s starts at (count - 1) next
        within_closes f = (
          omega (arith, i.0, f),
          record {
            few = omega (arith, i.1.few);
            long = i.1.long;
            first = λ _. i.1.first i.0;
            each = λ j h.
                let n = fewer_around count j h in
                let m = fewer_open count i.0 i.1.few in
                i.1.each j (inner_among count j h) ∙ ap (λ (x : ℕ). rest x (16 - count) s p) n ∙ rest_closes (16 - count) s p next e (count - 1 - 1 - j)
                ∙ ap (λ (x : ℕ). rest (count - 1 - 1 - j) x s next) m;
          },
        )

    -- ---- the token there

    pub where_reads : (p : ℕ) → Where s starts at count p → Reads (token_at s p)
    unfolding literal_by due_by
    where_reads p h = by_token (token_at s p) refl
      where
        unread : (refusal : Refusal) (place : ℕ) → token_at s p ≡ Err (refusal_at refusal place) → Where s starts at count p → ⊥
        unread refusal place e (in_body i) = within_goes p i refusal place (rw e)
        unread refusal place e (before_body i) = due_goes p i refusal place (due_here s p (Err (refusal_at refusal place)) e tt)

        by_token : (t : Result Read Refused) → token_at s p ≡ t → Reads t
        by_token (Ok (read.Number value next)) e = tt
        by_token (Ok (read.Identifier len next)) e = tt
        by_token (Ok (read.String k next)) e = tt
        by_token (Ok (read.Operator n next)) e = tt
        by_token (Ok (read.Comment next)) e = tt
        by_token (Err w) e = unread w.refusal w.place e h

    -- `{`
    pub where_opens : (p : ℕ) → Where s starts at count p → token_at s p ≡ Ok (read.Operator 106 (p + 2))
        → (count < 16) × Where s (set starts count p) at (count + 1) (p + 2)
    where_opens p (in_body i) e = absurd (within_goes p i NotAllowed p (open_literal s p (16 - count) 106 (p + 2) e refl))
    where_opens p (before_body i) e =
        let d = open_due s p 0 106 (p + 2) e refl in
        (omega (arith, awaits_room p i (p + 2) d), in_body (awaits_opens p i (p + 2) d))

    -- `}`
    module _ (p : ℕ) (h : Where s starts at count p) (e : token_at s p ≡ Ok (read.Operator 107 (p + 2))) where
      closes : Within s starts at count p × (literal_at (16 - count) s p ≡ Ok (Closed (p + 2)))
      closes = by_place h
        where
          by_place : Where s starts at count p → Within s starts at count p × (literal_at (16 - count) s p ≡ Ok (Closed (p + 2)))
          by_place (in_body i) = (i, close_literal s p (16 - count) 107 (p + 2) e refl)
          by_place (before_body i) = absurd (due_goes p i NotAllowed p (other_due s p 0 107 (p + 2) e (λ z. omega arith)))

      pub closes_one : 0 < count
      closes_one = closes.0.0

      pub closes_noted : body_at most_open s (get_or starts (count - 1) 0) ≡ Ok (p + 2)
      closes_noted = within_ends p closes.0 (p + 2) closes.1

      pub closes_last : count - 1 ≡ 0 → body_at most_open s at ≡ Ok (p + 2)
      closes_last z = within_last p closes.0 (p + 2) closes.1 z

      pub closes_on : (count - 1 ≡ 0 → ⊥) → Where s starts at (count - 1) (p + 2)
      closes_on f = in_body (within_closes p closes.0 (p + 2) closes.1 f)

    -- any other token
    module _ (p : ℕ) (h : Where s starts at count p) where
      literal_on : (next : ℕ) → literal_at (16 - count) s p ≡ Ok (On next) → due opening s p ≡ Err (refusal_at NotAllowed p) → Where s starts at count next
      literal_on next e d = by_place h
        where
          by_place : Where s starts at count p → Where s starts at count next
          by_place (in_body i) = in_body (within_on p i next e)
          by_place (before_body i) = absurd (due_goes p i NotAllowed p d)

      comment_on : (next : ℕ) → token_at s p ≡ Ok (read.Comment next) → Where s starts at count next
      unfolding literal_by
      comment_on next e = by_place h
        where
          by_place : Where s starts at count p → Where s starts at count next
          by_place (in_body i) = in_body (within_on p i next (rw e))
          by_place (before_body i) =
              before_body (
                (λ z. sym (body_comment most_open s p next e) ∙ i.0 z),
                pending_as i.1 (λ n. ap (λ (w : Result ℕ Refused). follow w (rest n (16 - count) s)) (body_comment (16 - count) s p next e)),
              )

      module _ (n next : ℕ) (e : token_at s p ≡ Ok (read.Operator n next)) (nb : NoBrace (Ok (read.Operator n next))) where
        holder_on : role_of n ≡ role.Holds → Where s starts at count next
        unfolding passing
        holder_on r = by_place h
          where
            by_place : Where s starts at count p → Where s starts at count next
            by_place (in_body i) = before_body (within_holds p i next (rw r at (operator_literal s p (16 - count) n next e)))
            by_place (before_body i) = absurd (due_goes p i NotAllowed p (other_due s p 0 n next e nb.0))

        barred_here : role_of n ≡ role.Barred → ⊥
        unfolding passing
        barred_here r = by_place h
          where
            by_place : Where s starts at count p → ⊥
            by_place (in_body i) = within_goes p i NotAllowed p (rw r at (operator_literal s p (16 - count) n next e))
            by_place (before_body i) = due_goes p i NotAllowed p (other_due s p 0 n next e nb.0)

        operator_on : Where s starts at count next
        unfolding passing
        operator_on = by_role (role_of n) refl
          where
            by_role : (r : Role) → role_of n ≡ r → Where s starts at count next
            by_role role.Plain r = literal_on next (rw r at (operator_literal s p (16 - count) n next e)) (other_due s p 0 n next e nb.0)
            by_role role.Holds r = holder_on r
            by_role role.Closes r = absurd (role_closes n nb.1 r)
            by_role role.Barred r = absurd (barred_here r)

      pub where_on : (next : ℕ) → pass_of (token_at s p) ≡ Ok next → NoBrace (token_at s p) → Where s starts at count next
      unfolding pass_of literal_by due_by
      where_on next o nb = by_token (token_at s p) refl
        where
          by_token : (t : Result Read Refused) → token_at s p ≡ t → Where s starts at count next
          by_token (Ok (read.Number value x)) e = let z : x ≡ next = over_same (rw e at o) in rw (← z) (literal_on x (rw e) (due_here s p _ e tt))
          by_token (Ok (read.Identifier len x)) e = let z : x ≡ next = over_same (rw e at o) in rw (← z) (literal_on x (rw e) (due_here s p _ e tt))
          by_token (Ok (read.String k x)) e = let z : x ≡ next = over_same (rw e at o) in rw (← z) (literal_on x (rw e) (due_here s p _ e tt))
          by_token (Ok (read.Operator n x)) e = let z : x ≡ next = over_same (rw e at o) in rw (← z) (operator_on n x e (rw e at nb))
          by_token (Ok (read.Comment x)) e = let z : x ≡ next = over_same (rw e at o) in rw (← z) (comment_on x e)
          by_token (Err w) e = absurd (rw e at (where_reads p h))

pub operator_over : (s : List ℕ) (p n next : ℕ) → token_at s p ≡ Ok (read.Operator n next) → pass_of (token_at s p) ≡ Ok next
operator_over s p n next e = past_operator s p (form.Operator n next) e n next refl

-- a token passed over ends past its place, inside the bytes
pub over_inside : (s : List ℕ) (p next : ℕ) → pass_of (token_at s p) ≡ Ok next → (p < next) × (next ≤ length s)
unfolding pass_of
over_inside s p next o = by_token (token_at s p) (token_inside s p) o
  where
    by_token : (t : Result Read Refused) → EndsIn (length s) p t → pass_of t ≡ Ok next → (p < next) × (next ≤ length s)
    by_token (Ok (read.Number value x)) g e = let z : x ≡ next = over_same e in rw (← z) g
    by_token (Ok (read.Identifier len x)) g e = let z : x ≡ next = over_same e in rw (← z) g
    by_token (Ok (read.String k x)) g e = let z : x ≡ next = over_same e in rw (← z) g
    by_token (Ok (read.Operator n x)) g e = let z : x ≡ next = over_same e in rw (← z) g
    by_token (Ok (read.Comment x)) g e = let z : x ≡ next = over_same e in rw (← z) g
    by_token (Err w) g e = absurd (false≢true (cc))

-- ---- braces by their bytes

pub brace_token : (s : List ℕ) (p n next : ℕ) → p + 1 < length s → get_or s p 0 ≡ 160 → n ≡ get_or s (p + 1) 0 → next ≡ p + 2
    → token_at s p ≡ Ok (read.Operator n next)
unfolding token_at token_of
brace_token s p n next h e f g =
    let z : 160 % 32 * 256 + get_or s (p + 1) 0 ≡ get_or s (p + 1) 0 = omega arith in
    rw (f, g) (simp (lt-ltb p (length s) (omega arith), e, lt-ltb (p + 1) (length s) h, z))

-- a long operator there, by its two bytes
module _ {s starts : List ℕ} {at count : ℕ} (ends : BodyEnds s at) (p : ℕ) (h : Where s starts at count p) (e : get_or s p 0 ≡ 160) where
  pub long_pair : p + 1 < length s
  long_pair = operator_pair s p (where_reads ends p h) (omega (arith, e)) (omega (arith, e))

  pub long_token : {n next : ℕ} → n ≡ get_or s (p + 1) 0 → next ≡ p + 2 → token_at s p ≡ Ok (read.Operator n next)
  long_token {n} {next} f g = brace_token s p n next long_pair e f g

sequence_plain : (k at : ℕ) (j : Joined) → NoBrace (sequence k at j)
unfolding sequence
sequence_plain k at (whole d next) = judged_all NoBrace k at d next (λ w. tt) (λ v. tt) (λ n. tt) (λ n. tt) tt
sequence_plain k at (cut_at place) = tt

-- both begin with the byte 160
pub no_brace : (s : List ℕ) (p : ℕ) → (get_or s p 0 ≡ 160 → ⊥) → NoBrace (token_at s p)
unfolding token_at token_of
no_brace s p f =
    let b : ℕ = get_or s p 0 in
    either NoBrace (ltb p (length s)) _ _
    (λ _. either NoBrace (ltb b 128) _ _ (λ _. either NoBrace (ltb (p + 1) (length s)) _ _ (λ _. tt) (λ _. tt))
    (λ h. either NoBrace (ltb b 160) _ _ (λ g. ((λ z. omega (arith, mod-lt b {m = 32} (lit< tt))), (λ z. omega (arith, mod-lt b {m = 32} (lit< tt)))))
    (λ g. either NoBrace (ltb b 192) _ _
    (λ i. either NoBrace (ltb (p + 1) (length s)) _ _
    (λ _. ((λ z. f (omega (arith, ltb-false b 160 g, ltb-true b 192 i))), (λ z. f (omega (arith, ltb-false b 160 g, ltb-true b 192 i))))) (λ _. tt))
    (λ _. sequence_plain (b % 32) p (joined_at s p)))))
    (λ _. tt)

-- ---- the notes

nothing_there : (n i : ℕ) → ◌≡◌ {A = ℕ} (get_or (replicate n 0) i 0) 0
nothing_there zero i = refl
nothing_there (suc n) zero = refl
nothing_there (suc n) (suc i) = nothing_there n i

-- a table of zeros has no notes
pub none_noted : (s : List ℕ) → Noted s (replicate 128 0)
none_noted s = record { room = omega (arith, length-replicate {A = ℕ} 128 0); each = λ i l f. absurd (f (nothing_there 128 (2 * i))) }

pub seen_ends : {s t : List ℕ} {at end : ℕ} → Noted s t → Seen t at end → Ok end ≡ body_at most_open s at
seen_ends {s} {t} {at} {end} N h =
    sym (rw (h.begins, h.ends) at (N.each (at % 64) (mod-lt at {m = 64} (lit< tt)) (λ z. h.some (sym h.begins ∙ z))))

pub note_long : (t : List ℕ) (x end : ℕ) → length (with_note t x end) ≡ length t
unfolding with_note
note_long t x end = length-set (set t (2 * (x % 64)) x) (2 * (x % 64) + 1) end ∙ length-set t (2 * (x % 64)) x

-- a body that ends lies inside the bytes
pub end_fits : (s : List ℕ) (x end : ℕ) → body_at most_open s x ≡ Ok end → (x < length s) × (end ≤ length s)
end_fits s x end e = let g = body_later most_open s x end e in let h = body_ends most_open s x end e in (omega arith, h)

module _ {s t : List ℕ} (x end : ℕ) (N : Noted s t) where
  note_else : (i : ℕ) → (i ≡ 2 * (x % 64) → ⊥) → (i ≡ 2 * (x % 64) + 1 → ⊥) → get_or (with_note t x end) i 0 ≡ get_or t i 0
  unfolding with_note
  note_else i f g = get_or-set_other (set t (2 * (x % 64)) x) (2 * (x % 64) + 1) i end 0 g ∙ get_or-set_other t (2 * (x % 64)) i x 0 f

  note_begins : get_or (with_note t x end) (2 * (x % 64)) 0 ≡ x
  unfolding with_note
  note_begins =
      get_or-set_other (set t (2 * (x % 64)) x) (2 * (x % 64) + 1) (2 * (x % 64)) end 0 (λ e. omega arith)
      ∙ get_or-set_same t (2 * (x % 64)) x 0 (omega (arith, N.room, mod-lt x {m = 64} (lit< tt)))

  note_ends : get_or (with_note t x end) (2 * (x % 64) + 1) 0 ≡ end
  unfolding with_note
  note_ends =
      get_or-set_same (set t (2 * (x % 64)) x) (2 * (x % 64) + 1) end 0
      (omega (arith, N.room, mod-lt x {m = 64} (lit< tt), length-set t (2 * (x % 64)) x))

  note_other : (i : ℕ) → i < 64 → (i ≡ x % 64 → ⊥) → (get_or (with_note t x end) (2 * i) 0 ≡ 0 → ⊥)
      → body_at most_open s (get_or (with_note t x end) (2 * i) 0) ≡ Ok (get_or (with_note t x end) (2 * i + 1) 0)
  note_other i l f g =
      let a = note_else (2 * i) (λ z. f (omega arith)) (λ z. omega arith) in
      let b = note_else (2 * i + 1) (λ z. omega arith) (λ z. f (omega arith)) in
      rw (a, b) (N.each i l (λ z. g (a ∙ z)))

  pub note_kept : body_at most_open s x ≡ Ok end → Noted s (with_note t x end)
  note_kept e = record {
    room = omega (arith, N.room, note_long t x end);
    each = λ i l f. split i (x % 64) (λ g. note_other i l (λ z. omega arith) f)
        (λ g. split (x % 64) i (λ h. note_other i l (λ z. omega arith) f)
        (λ h. let z : i ≡ x % 64 = omega arith in rw (z, note_begins, note_ends) e));
  }
