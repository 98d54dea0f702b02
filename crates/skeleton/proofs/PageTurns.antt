-- The loop over pages, a turn at a time, the answer by what was read, and where its bodies stand. In order: a turn; a body more; the count
-- of pages; the master. Assumes nothing.
use Rattle.std.specs.Prelude.{Result, Ok, Err}
use Rattle.tokens.specs.Refusal.{refusal_at, Outcome}
use Rattle.tokens.specs.declared.Refused.{Refused}
use mathlib.Core.Path.{◌≡◌, refl, sym, ap, ◌∙◌}
use mathlib.Core.Logic.{◌≢◌}
use mathlib.Core.Bool.{Bool, true, false, cond}
use mathlib.Core.List.{List, [], ◌∷◌, ◌++◌}
use Prim.Native.Nat.{ℕ, zero, suc, ◌+◌, ◌-◌, ◌*◌, ◌<◌, ◌≤◌}
use native.Mathlib.Omega.{arith}
use lib.Dec.{eqb, leb}
use lib.ListN.{length, get_or, set, length-append, length-map, length-set, get_or-append}
use lib.Seq.{slice, get_or-set_same, get_or-set_other, get_or_at}
use borrow.Author.Tests.{lt-leb, le-leb, leb-true}
use Rattle.tokens.specs.declared.Read.{Read}
use Rattle.tokens.specs.declared.Read.TheVariants.{Number, Identifier, String, Operator, Comment}
use Rattle.tokens.specs.declared.Refusal.{Refusal}
use Rattle.tokens.specs.declared.Refusal.TheVariants.{BadHeader, NotAllowed, TooManyPages}
use Rattle.tokens.specs.Format.{header, starts}
use Rattle.tokens.specs.Token.{token_at}
use Rattle.tokens.proofs.Theorems.{token_end}
use Rattle.numbers.proofs.Cond.{either, split}
use Rattle.machine.specs.Limits.{most_open, most_pages}
use Rattle.machine.specs.Skeleton.{Span, Skeleton, sound, refused, beginning, opening, ending, solid, due, body_at, onward, span_of, ended_at, page_at, outer_by, pages_from, preamble_at, skeleton_of}
use Rattle.machine.specs.Page.{bodies_of}
use Rattle.machine.specs.Promise.{pages_in}
use Rattle.machine.proofs.Inside.{WentIn, token_inside, EndsIn, body_later}
use Rattle.machine.proofs.Comments.{never, comments_later, comments_are}
use Rattle.machine.proofs.Bodies.{body_ends, body_long}
use Rattle.skeleton.specs.declared.Turn.{Turn}
use Rattle.skeleton.specs.declared.Turn.TheVariants.{Aside, Page, Ended}
use Rattle.skeleton.specs.Spans.{Stands, Placed, noted, Surveyed}
use Rattle.skeleton.specs.Turns.{page_or, page_turn, end_turn, turn_by, turn_at}

-- ---- a turn

-- no operator and no comment
pub barred : (t : Read) (s : List ℕ) (had at : ℕ) → ((n next : ℕ) → t ≡ Operator n next → ⊥) → ((next : ℕ) → t ≡ Comment next → ⊥)
    → Err (refusal_at NotAllowed at) ≡ turn_by s had at (Ok t)
unfolding turn_by
barred (Number value next) s had at f g = refl
barred (Identifier len next) s had at f g = refl
barred (String count next) s had at f g = refl
barred (Operator n next) s had at f g = absurd (f n next refl)
barred (Comment next) s had at f g = absurd (g next refl)

-- what a turn makes of the bodies so far
unfoldable turned : List Span → ℕ → Result Turn Refused → (ℕ → List Span → Skeleton) → Skeleton
turned spans at (Ok (Aside next)) rest = rest next spans
turned spans at (Ok (Page next)) rest = rest next (spans ++ (span_of at next ∷ []))
turned spans at (Ok Ended) rest = sound spans
turned spans at (Err w) rest = refused w.refusal w.place

module _ (s : List ℕ) (spans : List Span) (at : ℕ) (rest : ℕ → List Span → Skeleton) where
  turned_cond : (b : Bool) (x y : Result Turn Refused) → turned spans at (cond b x y) rest ≡ cond b (turned spans at x rest) (turned spans at y rest)
  turned_cond true x y = refl
  turned_cond false x y = refl

  page_turned : (w : Result ℕ Refused) → onward w (λ next. rest next (spans ++ (span_of at next ∷ []))) ≡ turned spans at (page_or w) rest
  unfolding onward page_or turned
  page_turned (Ok next) = refl
  page_turned (Err w) = refl

  paged : page_at s spans at rest ≡ turned spans at (page_turn s (length spans) at) rest
  unfolding page_at page_turn turned
  paged = rw (turned_cond (leb (length spans) most_pages) (page_or (body_at most_open s at)) _, page_turned (body_at most_open s at))

  closed : (next : ℕ) → ended_at s spans next ≡ turned spans at (end_turn s next) rest
  unfolding ended_at end_turn turned
  closed next = sym (turned_cond (eqb next (length s)) (Ok Ended) _)

  outer_turned : (t : Result Read Refused) → outer_by s spans at t rest ≡ turned spans at (turn_by s (length spans) at t) rest
  unfolding outer_by turn_by turned
  outer_turned (Ok (Number value next)) = refl
  outer_turned (Ok (Identifier len next)) = refl
  outer_turned (Ok (String count next)) = refl
  outer_turned (Ok (Operator n next)) =
      rw (turned_cond (eqb n opening) (page_turn s (length spans) at) _, turned_cond (eqb n ending) (end_turn s next) _, paged, closed next)
  outer_turned (Ok (Comment next)) = refl
  outer_turned (Err w) = refl

-- one turn, where there is room for k tokens and that is enough for what is left
page_turned_by : (k : ℕ) (s : List ℕ) (at : ℕ) (spans : List Span) → length s ≤ at + k → pages_from k s at spans ≡ turned spans at (turn_at s (length spans) at) (pages_from (k - 1) s)
unfolding pages_from turn_at turned turn_by
page_turned_by zero s at spans h = rw (token_end s at (omega arith))
page_turned_by (suc k) s at spans h = let e : suc k - 1 ≡ k = omega arith in rw e (outer_turned s spans at (pages_from k s) (token_at s at))

by_turn : (k : ℕ) (s : List ℕ) (p had : ℕ) (spans : List Span) (t : Result Turn Refused) → length s ≤ p + k → length spans ≡ had → turn_at s had p ≡ t
    → pages_from k s p spans ≡ turned spans p t (pages_from (k - 1) s)
by_turn k s p had spans t h e f = page_turned_by k s p spans h ∙ rw (e, f)

-- reading goes on past where the turn began
abbrev Onward : ℕ → ℕ → Result Turn Refused → Type 0
Onward n at (Ok (Aside next)) = (at < next) × (next ≤ n)
Onward n at (Ok (Page next)) = (at < next) × (next ≤ n)
Onward n at (Ok Ended) = Unit
Onward n at (Err w) = Unit

module _ (n at : ℕ) where
  page_onward : (w : Result ℕ Refused) → WentIn n at w → Onward n at (page_or w)
  unfolding page_or
  page_onward (Ok next) h = (h.0, h.1)
  page_onward (Err w) h = tt

  turn_by_lem : (s : List ℕ) (bodies : ℕ) → WentIn n at (body_at most_open s at) → (t : Result Read Refused) → EndsIn n at t
      → Onward n at (turn_by s bodies at t)
  unfolding turn_by page_turn end_turn
  turn_by_lem s bodies w (Ok (Number value next)) h = tt
  turn_by_lem s bodies w (Ok (Identifier len next)) h = tt
  turn_by_lem s bodies w (Ok (String count next)) h = tt
  turn_by_lem s bodies w (Ok (Operator m next)) h =
      either (Onward n at) (eqb m opening) _ _ (λ _. either (Onward n at) (leb bodies most_pages) _ _ (λ _. page_onward (body_at most_open s at) w) (λ _. tt))
      (λ _. either (Onward n at) (eqb m ending) _ _ (λ _. either (Onward n at) (eqb next (length s)) _ _ (λ _. tt) (λ _. tt)) (λ _. tt))
  turn_by_lem s bodies w (Ok (Comment next)) h = (h.0, h.1)
  turn_by_lem s bodies w (Err why) h = tt

turn_onward : (s : List ℕ) (bodies at : ℕ) → Onward (length s) at (turn_at s bodies at)
unfolding turn_at
turn_onward s bodies at = turn_by_lem (length s) at s bodies (body_later most_open s at) (token_at s at) (token_inside s at)

onward_by : (s : List ℕ) (had p : ℕ) (t : Result Turn Refused) → turn_at s had p ≡ t → Onward (length s) p t
onward_by s had p t e = rw e at (turn_onward s had p)

-- ---- a body more

page_or_lem : {next : ℕ} (b : Bool) (w : Result ℕ Refused) (at : ℕ) → cond b (page_or w) (Err (refusal_at TooManyPages at)) ≡ Ok (Page next)
    → (b ≡ true) × (w ≡ Ok next)
unfolding page_or
page_or_lem true (Ok x) at e = (refl, cc)
page_or_lem true (Err w) at e = never (cc)
page_or_lem false w at e = never (cc)

-- a page that is read is one of the first 512, with its `{` and its `}`
page_fits : (s : List ℕ) (had p next : ℕ) → turn_at s had p ≡ Ok (Page next) → (had ≤ most_pages) × (p + 4 ≤ next)
unfolding turn_at turn_by page_turn end_turn
page_fits s had p next = by_token (token_at s p)
  where
    Fits : Result Turn Refused → Type 0
    Fits x = x ≡ Ok (Page next) → (had ≤ most_pages) × (p + 4 ≤ next)

    long : body_at most_open s p ≡ Ok next → p + 4 ≤ next
    long e = omega (arith, comments_later s p (solid s p) (comments_are s p), body_long most_open s p next e)

    by_token : (t : Result Read Refused) → Fits (turn_by s had p t)
    by_token (Ok (Number value x)) = λ e. never (cc)
    by_token (Ok (Identifier len x)) = λ e. never (cc)
    by_token (Ok (String count x)) = λ e. never (cc)
    by_token (Ok (Operator n x)) =
        either Fits (eqb n opening) _ _ (λ _ e. let g = page_or_lem (leb had most_pages) (body_at most_open s p) p e in (leb-true had most_pages g.0, long g.1))
        (λ _. either Fits (eqb n ending) _ _ (λ _. either Fits (eqb x (length s)) _ _ (λ _ e. never (cc)) (λ _ e. never (cc))) (λ _ e. never (cc)))
    by_token (Ok (Comment x)) = λ e. never (cc)
    by_token (Err w) = λ e. never (cc)

pub length_bodies : (s : List ℕ) (spans : List Span) → length (bodies_of s spans) ≡ length spans
unfolding bodies_of
length_bodies s spans = length-map spans (λ (p : Span). slice p.start (p.start + p.len) s)

bodies_more : (s : List ℕ) (spans : List Span) (q : Span) → bodies_of s (spans ++ (q ∷ [])) ≡ bodies_of s spans ++ (slice q.start (q.start + q.len) s ∷ [])
unfolding bodies_of
bodies_more s [] q = refl
bodies_more s (x ∷ spans) q = ap (λ (l : List (List ℕ)). slice x.start (x.start + x.len) s ∷ l) (bodies_more s spans q)

-- the next body noted: the ones before stand as they stood
module _ (s t : List ℕ) (had at next : ℕ) (room : 2 * had + 2 ≤ length t) (long : at + 4 ≤ next) (inside : next ≤ length s) where
  noted_else : (j : ℕ) → j ≢ 2 * had → j ≢ 2 * had + 1 → get_or (noted t had at next) j 0 ≡ get_or t j 0
  unfolding noted
  noted_else j f g = get_or-set_other (set t (2 * had) (at + 2)) (2 * had + 1) j (next - 2) 0 g ∙ get_or-set_other t (2 * had) j (at + 2) 0 f

  noted_there : Stands s (slice (span_of at next).start ((span_of at next).start + (span_of at next).len) s) (get_or (noted t had at next) (2 * had) 0) (get_or (noted t had at next) (2 * had + 1) 0)
  unfolding noted span_of
  noted_there =
      let a : get_or (noted t had at next) (2 * had) 0 ≡ at + 2 = get_or-set_other (set t (2 * had) (at + 2)) (2 * had + 1) (2 * had) (next - 2) 0 (λ e. omega arith) ∙ get_or-set_same t (2 * had) (at + 2) 0 (omega arith) in
      let e : get_or (noted t had at next) (2 * had + 1) 0 ≡ next - 2 = get_or-set_same (set t (2 * had) (at + 2)) (2 * had + 1) (next - 2) 0 (omega (arith, length-set t (2 * had) (at + 2))) in
      let z : at + 2 + (next - 2 - (at + 2)) ≡ next - 2 = omega arith in
      record { ordered = omega (arith, a, e); inside = omega (arith, e); is = rw (a, e, z) refl }

  abbrev body : List ℕ
  body = slice (span_of at next).start ((span_of at next).start + (span_of at next).len) s

  placed_more : (bodies : List (List ℕ)) → length bodies ≡ had → had ≤ most_pages → ((n : ℕ) → n < had → Stands s (get_or bodies n []) (get_or t (2 * n) 0) (get_or t (2 * n + 1) 0)) → Placed s (noted t had at next) (bodies ++ (body ∷ []))
  placed_more bodies l few f = record { some = omega (arith, many); few = omega (arith, many); each = λ n h. stands n (omega (arith, many)) }
    where
      many : length (bodies ++ (body ∷ [])) ≡ had + 1
      many = length-append bodies (body ∷ []) ∙ (rw l refl)

      stands : (n : ℕ) → n < had + 1 → Stands s (get_or (bodies ++ (body ∷ [])) n []) (get_or (noted t had at next) (2 * n) 0) (get_or (noted t had at next) (2 * n + 1) 0)
      stands n h =
          split n had (λ g. rw (noted_else (2 * n) (λ e. omega arith) (λ e. omega arith), noted_else (2 * n + 1) (λ e. omega arith) (λ e. omega arith), get_or-append bodies (body ∷ []) [] n (rw l g)) (f n g))
          (λ g. let z : n ≡ had = omega arith in rw (z, get_or_at bodies body [] [] had l) noted_there)

-- ---- the count of pages

same_sound : {x y : List Span} → sound x ≡ sound y → x ≡ y
same_sound e = cc

unsound : {X : Type 0} {w : Refusal} {place : ℕ} {spans : List Span} → refused w place ≡ sound spans → X
unsound e = never (cc)

-- a refusal leaves no bodies
halted_so : (s t : List ℕ) (w : Refused) (x : Skeleton) → x ≡ refused w.refusal w.place → Surveyed s t x (Err w)
unfolding pages_in
halted_so s t w x e = record { answer = rw e; placed = λ spans f. unsound (sym e ∙ f) }

-- at p, after so many bodies with the preamble's: whatever that one's span is, the skeleton is what it is from `at` on, and the bodies
-- so far stand where t says
pub record Counting (s t₀ : List ℕ) (at : ℕ) (t : List ℕ) (p had : ℕ) : Type 0 where
  pub room : ℕ
  pub enough : length s ≤ p + room
  pub few : had ≤ most_pages + 1
  pub some : 1 ≤ had
  pub long : length t ≡ length t₀
  pub same : (q : Span) → Placed s t₀ (bodies_of s (q ∷ [])) → (spans : List Span) × (length spans ≡ had) × (pages_from room s p spans ≡ pages_from (length s) s at (q ∷ [])) × Placed s t (bodies_of s spans)

pub counting_starts : (s t : List ℕ) (at : ℕ) → Counting s t at t at 1
counting_starts s t at = record { room = length s; enough = omega arith; few = omega arith; some = omega arith; long = refl; same = λ q h. (q ∷ [], refl, refl, h) }

module _ (s t₀ : List ℕ) (at : ℕ) (t : List ℕ) (p had : ℕ) (c : Counting s t₀ at t p had) where
  turn_said : (x : Result Turn Refused) → turn_at s had p ≡ x → (q : Span) → Placed s t₀ (bodies_of s (q ∷ []))
      → (spans : List Span) × (length spans ≡ had) × (turned spans p x (pages_from (c.room - 1) s) ≡ pages_from (length s) s at (q ∷ [])) × Placed s t (bodies_of s spans)
  turn_said x e q h = let j = c.same q h in (j.0, j.1, sym (by_turn c.room s p had j.0 x c.enough j.1 e) ∙ j.2, j.3)

  -- past a comment
  pub counting_aside : (next : ℕ) → turn_at s had p ≡ Ok (Aside next) → (p < next) × (next ≤ length s) × Counting s t₀ at t next had
  unfolding turned
  counting_aside next e =
      let g = onward_by s had p (Ok (Aside next)) e in (
        g.0,
        g.1,
        record { room = c.room - 1; enough = omega (arith, g.0, g.1, c.enough); few = c.few; some = c.some; long = c.long; same = turn_said (Ok (Aside next)) e },
      )

  -- past a page
  pub page_room : (next : ℕ) → 1026 ≤ length t₀ → turn_at s had p ≡ Ok (Page next) → (2 * had + 2 ≤ length t) × (p + 4 ≤ next)
  page_room next l e = let f = page_fits s had p next e in (omega (arith, f.0, c.long), f.1)

  pub counting_page : (next : ℕ) (t' : List ℕ) → 1026 ≤ length t₀ → turn_at s had p ≡ Ok (Page next) → t' ≡ noted t had p next
      → (p < next) × (next ≤ length s) × Counting s t₀ at t' next (had + 1)
  unfolding turned noted
  counting_page next t' l e n =
      let g = onward_by s had p (Ok (Page next)) e in
      let f = page_fits s had p next e in
      let r = page_room next l e in
      let one = span_of p next in (
        g.0,
        g.1,
        record {
          room = c.room - 1;
          enough = omega (arith, g.0, g.1, c.enough);
          few = omega (arith, f.0);
          some = omega (arith, c.some);
          long = rw (n, length-set (set t (2 * had) (p + 2)) (2 * had + 1) (next - 2), length-set t (2 * had) (p + 2)) c.long;
          same = λ q h. let j = turn_said (Ok (Page next)) e q h in
              let m : length (bodies_of s j.0) ≡ had = length_bodies s j.0 ∙ j.1 in (
                j.0 ++ (one ∷ []),
                omega (arith, length-append j.0 (one ∷ []), j.1),
                j.2,
                rw (n, bodies_more s j.0 one) (placed_more s t had p next r.0 f.1 g.1 (bodies_of s j.0) m f.0 (λ i d. j.3.each i (omega (arith, m, d)))),
              );
        },
      )

  module _ (q : Span) (h : Placed s t₀ (bodies_of s (q ∷ []))) where
    pub counting_ended : turn_at s had p ≡ (Ok Ended) → Surveyed s t (pages_from (length s) s at (q ∷ [])) (Ok (had - 1))
    unfolding turned pages_in
    counting_ended e =
        let j = turn_said (Ok Ended) e q h in
        record {
          answer = ap (λ (n : ℕ). Ok (n - 1)) (sym j.1) ∙ ap pages_in j.2;
          placed = λ spans f. let z : j.0 ≡ spans = same_sound (j.2 ∙ f) in rw (← z) j.3;
        }

    pub counting_halts : (w : Refused) → turn_at s had p ≡ Err w → Surveyed s t (pages_from (length s) s at (q ∷ [])) (Err w)
    unfolding turned pages_in
    counting_halts w e = let j = turn_said (Err w) e q h in halted_so s t w (pages_from (length s) s at (q ∷ [])) (sym j.2)

-- ---- the master

module _ (s : List ℕ) (t : List ℕ) where
  pub headless : starts header s ≡ false → Surveyed s t (skeleton_of s) (Err (refusal_at BadHeader 0))
  unfolding skeleton_of
  headless e = halted_so s t (refusal_at BadHeader 0) (skeleton_of s) (rw e)

  pub begun : (next : ℕ) (r : Outcome) → starts header s ≡ true → due beginning s 21 ≡ Ok next → Surveyed s t (preamble_at s next) r
      → Surveyed s t (skeleton_of s) r
  unfolding skeleton_of onward
  begun next r e f g = rw (e, f) g

  pub not_begun : (w : Refused) → starts header s ≡ true → due beginning s 21 ≡ Err w → Surveyed s t (skeleton_of s) (Err w)
  unfolding skeleton_of onward
  not_begun w e f = halted_so s t w (skeleton_of s) (rw (e, f))

  pub preamble_bad : (at : ℕ) (w : Refused) → body_at most_open s at ≡ Err w → Surveyed s t (preamble_at s at) (Err w)
  unfolding preamble_at onward
  preamble_bad at w e = halted_so s t w (preamble_at s at) (rw e)

  -- the preamble noted, then the pages
  pub preamble_read : (t₀ t₁ : List ℕ) (at next : ℕ) (r : Outcome) → 1026 ≤ length t₀ → body_at most_open s at ≡ Ok next → t₁ ≡ noted t₀ 0 (solid s at) next
      → ((q : Span) → Placed s t₁ (bodies_of s (q ∷ [])) → Surveyed s t (pages_from (length s) s next (q ∷ [])) r) → Surveyed s t (preamble_at s at) r
  unfolding preamble_at onward bodies_of
  preamble_read t₀ t₁ at next r l e n f =
      let d = body_long most_open s at next e in
      rw e (f (span_of (solid s at) next) (rw n (placed_more s t₀ 0 (solid s at) next (omega arith) d (body_ends most_open s at next e) [] refl (omega arith) (λ i h. absurd (omega arith)))))

module _ (s : List ℕ) where
  module _ (had at : ℕ) where
    pub page_many : most_pages < had → Err (refusal_at TooManyPages at) ≡ page_turn s had at
    unfolding page_turn
    page_many h = rw (lt-leb had most_pages h)

    pub page_read : (next : ℕ) → had ≤ most_pages → body_at most_open s at ≡ Ok next → Ok (Page next) ≡ page_turn s had at
    unfolding page_turn page_or
    page_read next h e = rw (le-leb had most_pages h, e)

    pub page_bad : (w : Refused) → had ≤ most_pages → body_at most_open s at ≡ Err w → Err w ≡ page_turn s had at
    unfolding page_turn page_or
    page_bad w h e = rw (le-leb had most_pages h, e)
