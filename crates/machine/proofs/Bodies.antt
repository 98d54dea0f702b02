-- A body that is read, by its parts: comments, `{`, literals each passed, `}`; and back. In order: literals; their ends; bodies.
-- Assumes nothing.
use Rattle.std.specs.Prelude.{Result, Ok, Err}
use Rattle.tokens.specs.Refusal.{refusal_at}
use Rattle.tokens.specs.declared.Refused.{Refused}
use Prim.Native.Nat.{ℕ, zero, suc, ◌+◌, ◌<◌, ◌≤◌}
use native.Mathlib.Omega.{arith}
use mathlib.Core.Path.{◌≡◌, refl, sym, ap, ◌∙◌}
use mathlib.Core.List.{List}
use lib.Dec.{eqb, lit≤}
use lib.ListN.{length}
use borrow.Author.Tests.{eqb-true, eq-eqb}
use Rattle.numbers.specs.declared.Number as num
use Rattle.tokens.specs.declared.Read.{Read}
use Rattle.tokens.specs.declared.Read.TheVariants.{Number, Identifier, String, Operator, Comment}
use Rattle.tokens.specs.declared.Refusal.TheVariants.{TooDeep}
use Rattle.tokens.specs.Token.{token_at}
use Rattle.numbers.proofs.Cond.{either}
use Rattle.machine.specs.declared.Role.{Role}
use Rattle.machine.specs.declared.Role.TheVariants.{Plain, Holds, Closes, Barred}
use Rattle.machine.specs.declared.Passed.{Passed}
use Rattle.machine.specs.declared.Passed.TheVariants.{On, Closed}
use Rattle.machine.specs.Skeleton.{opening, closing, role_of, one_of, holders, barred, solid, follow, and_then, held, passing, literal_by, due_by, due, literals_from, body_at, literal_at}
use Rattle.machine.proofs.Inside.{token_inside}
use Rattle.machine.proofs.Inside as inside
use Rattle.machine.proofs.Comments.{never, operator_beyond, Comments, solid_is, comments_are, two_bytes}

-- how a literal, or a comment, is passed: by its token alone, or as far as the body that it holds; k more bodies may be open
pub data Passing (s : List ℕ) (k at next : ℕ) : Type 0 where
  figure : (value : num.Number) → token_at s at ≡ Ok (Number value next) → Passing s k at next
  name : (len : ℕ) → token_at s at ≡ Ok (Identifier len next) → Passing s k at next
  text : (count : ℕ) → token_at s at ≡ Ok (String count next) → Passing s k at next
  comment : token_at s at ≡ Ok (Comment next) → Passing s k at next
  plain : (n : ℕ) → token_at s at ≡ Ok (Operator n next) → role_of n ≡ Plain → Passing s k at next
  holding : (n inner : ℕ) → token_at s at ≡ Ok (Operator n inner) → role_of n ≡ Holds → body_at k s inner ≡ Ok next → Passing s k at next

-- such ones from the place on, up to `end`
pub data Passes (s : List ℕ) (k : ℕ) : ℕ → ℕ → Type 0 where
  stop : {at : ℕ} → Passes s k at at
  more : {at next end : ℕ} → Passing s k at next → Passes s k next end → Passes s k at end

-- the body from `at` to `next`
pub record Parts (s : List ℕ) (k at next : ℕ) : Type 0 where
  pub begins : ℕ
  pub ends : ℕ
  pub comments : Comments s at begins
  pub opens : token_at s begins ≡ Ok (Operator opening (begins + 2))
  pub literals : Passes s k (begins + 2) ends
  pub closes : token_at s ends ≡ Ok (Operator closing next)

same_on : {x y : ℕ} → ◌≡◌ {A = Result Passed Refused} (Ok (On x)) (Ok (On y)) → x ≡ y
same_on e = cc

same_closed : {x y : ℕ} → ◌≡◌ {A = Result Passed Refused} (Ok (Closed x)) (Ok (Closed y)) → x ≡ y
same_closed e = cc

closed_on : {x y : ℕ} → ◌≡◌ {A = Result Passed Refused} (Ok (Closed x)) (Ok (On y)) → ◌≡◌ {A = ℕ} 0 1
closed_on e = cc

bad_on : {w : Refused} {y : ℕ} → Err w ≡ Ok (On y) → ◌≡◌ {A = ℕ} 0 1
bad_on e = cc

bad_closed : {w : Refused} {y : ℕ} → Err w ≡ Ok (Closed y) → ◌≡◌ {A = ℕ} 0 1
bad_closed e = cc

same_past : {x y : ℕ} → ◌≡◌ {A = Result ℕ Refused} (Ok x) (Ok y) → x ≡ y
same_past e = cc

stop_past : {w : Refused} {y : ℕ} → Err w ≡ Ok y → ◌≡◌ {A = ℕ} 0 1
stop_past e = cc

closes_is : (n : ℕ) → role_of n ≡ Closes → n ≡ closing
unfolding role_of
closes_is n =
    either P (eqb n closing) Closes _ (λ h e. eqb-true n closing h)
    (λ _. either P (one_of holders n) Holds _ (λ _ e. never (cc)) (λ _. either P (one_of barred n) Barred Plain (λ _ e. never (cc)) (λ _ e. never (cc))))
  where
    P : Role → Type 0
    P r = r ≡ Closes → n ≡ closing

module _ (s : List ℕ) (k : ℕ) where
  passing_of : (at next : ℕ) → literal_at k s at ≡ Ok (On next) → Passing s k at next
  unfolding literal_by passing held
  passing_of at next = by_token (token_at s at) refl
    where
      by_went : (n x : ℕ) → token_at s at ≡ Ok (Operator n x) → role_of n ≡ Holds → (w : Result ℕ Refused) → body_at k s x ≡ w
          → held w ≡ Ok (On next) → Passing s k at next
      by_went n x e r (Ok y) q h = holding n x e r (q ∙ ap Ok (same_on h))
      by_went n x e r (Err w) q h = never (bad_on h)

      by_role : (n x : ℕ) → token_at s at ≡ Ok (Operator n x) → (r : Role) → role_of n ≡ r → passing r at (body_at k s) x ≡ Ok (On next) → Passing s k at next
      by_role n x e Plain r h = plain n (e ∙ ap (λ x. Ok (Operator n x)) (same_on h)) r
      by_role n x e Holds r h = by_went n x e r (body_at k s x) refl h
      by_role n x e Closes r h = never (closed_on h)
      by_role n x e Barred r h = never (bad_on h)

      by_token : (t : Result Read Refused) → token_at s at ≡ t → literal_by at (body_at k s) t ≡ Ok (On next) → Passing s k at next
      by_token (Ok (Number value x)) e h = figure value (e ∙ ap (λ x. Ok (Number value x)) (same_on h))
      by_token (Ok (Identifier len x)) e h = name len (e ∙ ap (λ x. Ok (Identifier len x)) (same_on h))
      by_token (Ok (String count x)) e h = text count (e ∙ ap (λ x. Ok (String count x)) (same_on h))
      by_token (Ok (Operator n x)) e h = by_role n x e (role_of n) refl h
      by_token (Ok (Comment x)) e h = comment (e ∙ ap (λ x. Ok (Comment x)) (same_on h))
      by_token (Err w) e h = never (bad_on h)

  closed_of : (at next : ℕ) → literal_at k s at ≡ Ok (Closed next) → token_at s at ≡ Ok (Operator closing next)
  unfolding literal_by passing held
  closed_of at next = by_token (token_at s at) refl
    where
      by_went : (w : Result ℕ Refused) → held w ≡ Ok (Closed next) → token_at s at ≡ Ok (Operator closing next)
      by_went (Ok y) h = never (closed_on (sym h))
      by_went (Err w) h = never (bad_closed h)

      by_role : (n x : ℕ) → token_at s at ≡ Ok (Operator n x) → (r : Role) → role_of n ≡ r → passing r at (body_at k s) x ≡ Ok (Closed next)
          → token_at s at ≡ Ok (Operator closing next)
      by_role n x e Plain r h = never (closed_on (sym h))
      by_role n x e Holds r h = by_went (body_at k s x) h
      by_role n x e Closes r h = rw (closes_is n r) at (e ∙ ap (λ x. Ok (Operator n x)) (same_closed h))
      by_role n x e Barred r h = never (bad_closed h)

      by_token : (t : Result Read Refused) → token_at s at ≡ t → literal_by at (body_at k s) t ≡ Ok (Closed next) → token_at s at ≡ Ok (Operator closing next)
      by_token (Ok (Number value x)) e h = never (closed_on (sym h))
      by_token (Ok (Identifier len x)) e h = never (closed_on (sym h))
      by_token (Ok (String count x)) e h = never (closed_on (sym h))
      by_token (Ok (Operator n x)) e h = by_role n x e (role_of n) refl h
      by_token (Ok (Comment x)) e h = never (closed_on (sym h))
      by_token (Err w) e h = never (bad_closed h)

  closed_is : (at next : ℕ) → token_at s at ≡ Ok (Operator closing next) → literal_at k s at ≡ Ok (Closed next)
  unfolding literal_by passing role_of
  closed_is at next e = rw e

  literal_of : (at next : ℕ) → Passing s k at next → literal_at k s at ≡ Ok (On next)
  unfolding literal_by passing held
  literal_of at next (figure value e) = rw e
  literal_of at next (name len e) = rw e
  literal_of at next (text count e) = rw e
  literal_of at next (comment e) = rw e
  literal_of at next (plain n e r) = rw (e, r)
  literal_of at next (holding n inner e r h) = rw (e, r, h)

  -- and literals up to a `}`
  pub literals_parts : (j at next : ℕ) → literals_from j (literal_at k s) at ≡ Ok next
      → (end : ℕ) × Passes s k at end × (token_at s end ≡ Ok (Operator closing next))
  unfolding literals_from and_then
  literals_parts zero at next h = never (stop_past h)
  literals_parts (suc j) at next h = by_passed (λ x. literals_parts j x next) (literal_at k s at) refl h
    where
      by_passed : ((x : ℕ) → literals_from j (literal_at k s) x ≡ Ok next → (end : ℕ) × Passes s k x end × (token_at s end ≡ Ok (Operator closing next)))
          → (p : Result Passed Refused) → literal_at k s at ≡ p → and_then p (literals_from j (literal_at k s)) ≡ Ok next
          → (end : ℕ) × Passes s k at end × (token_at s end ≡ Ok (Operator closing next))
      by_passed ih (Ok (On x)) e g = let r = ih x g in (r.0, more (passing_of at x e) r.1, r.2)
      by_passed ih (Ok (Closed x)) e g = (at, stop, closed_of at x e ∙ ap (λ y. Ok (Operator closing y)) (same_past g))
      by_passed ih (Err w) e g = never (stop_past g)

-- ---- ends

-- a body ends past its place
pub body_later : (k : ℕ) (s : List ℕ) (at next : ℕ) → body_at k s at ≡ Ok next → at < next
body_later k s at next h = (rw h at (inside.body_later k s at)).0

-- and inside the input
pub body_ends : (k : ℕ) (s : List ℕ) (at next : ℕ) → body_at k s at ≡ Ok next → next ≤ length s
body_ends k s at next h = (rw h at (inside.body_later k s at)).1

-- a token from `at` to `next` in n bytes begins among them
begins_in : (at next n : ℕ) → (at < next) × (next ≤ n) → (at < next) × (at < n)
begins_in at next n g = (g.0, omega (arith, g.0, g.1))

module _ (s : List ℕ) (k : ℕ) where
  pub passing_later : (at next : ℕ) → Passing s k at next → (at < next) × (at < length s)
  passing_later at next (figure value e) = begins_in at next (length s) (rw e at (token_inside s at))
  passing_later at next (name len e) = begins_in at next (length s) (rw e at (token_inside s at))
  passing_later at next (text count e) = begins_in at next (length s) (rw e at (token_inside s at))
  passing_later at next (comment e) = begins_in at next (length s) (rw e at (token_inside s at))
  passing_later at next (plain n e r) = begins_in at next (length s) (operator_beyond s at n next e)
  passing_later at next (holding n inner e r h) = let g = begins_in at inner (length s) (operator_beyond s at n inner e) in (omega (arith, g.0, body_later k s inner next h), g.1)

  pub passes_later : (at end : ℕ) → Passes s k at end → at ≤ end
  passes_later at end stop = omega arith
  passes_later at end (more {next = next} p q) = omega (arith, (passing_later at next p).0, passes_later next end q)

  pub literals_of : (j at end next : ℕ) → length s ≤ at + j → Passes s k at end → token_at s end ≡ Ok (Operator closing next)
      → literals_from j (literal_at k s) at ≡ Ok next
  unfolding literals_from and_then
  literals_of zero at end next l stop e = let g = operator_beyond s at closing next e in absurd (omega (arith, g.0, g.1))
  literals_of zero at end next l (more {next = x} p q) e = absurd (omega (arith, (passing_later at x p).1))
  literals_of (suc j) at end next l stop e = rw (closed_is s k at next e)
  literals_of (suc j) at end next l (more {next = x} p q) e = rw (literal_of s k at x p) (literals_of j x end next (omega (arith, (passing_later at x p).0)) q e)

-- ---- bodies

pub due_of : (n : ℕ) (s : List ℕ) (at next : ℕ) → due n s at ≡ Ok next → token_at s (solid s at) ≡ Ok (Operator n next)
unfolding due due_by
due_of n s at next = by_token (token_at s (solid s at)) refl
  where
    by_token : (t : Result Read Refused) → token_at s (solid s at) ≡ t → due_by n (solid s at) t ≡ Ok next → token_at s (solid s at) ≡ Ok (Operator n next)
    by_token (Ok (Number value x)) e h = never (stop_past h)
    by_token (Ok (Identifier len x)) e h = never (stop_past h)
    by_token (Ok (String count x)) e h = never (stop_past h)
    by_token (Ok (Operator m x)) e h = either (λ w. w ≡ Ok next → token_at s (solid s at) ≡ Ok (Operator n next)) (eqb m n) (Ok x) _
        (λ i g. rw (eqb-true m n i) at (e ∙ ap (λ y. Ok (Operator m y)) (same_past g))) (λ _ g. never (stop_past g)) h
    by_token (Ok (Comment x)) e h = never (stop_past h)
    by_token (Err w) e h = never (stop_past h)

pub due_is : (n : ℕ) (s : List ℕ) (at q next : ℕ) → Comments s at q → token_at s q ≡ Ok (Operator n next) → due n s at ≡ Ok next
unfolding due due_by
due_is n s at q next c e = rw (solid_is s at q c, e, eq-eqb n n refl)

pub parts_of : (k : ℕ) (s : List ℕ) (at next : ℕ) → body_at (suc k) s at ≡ Ok next → Parts s k at next
unfolding body_at follow
parts_of k s at next h = by_due (due opening s at) refl h
  where
    by_due : (w : Result ℕ Refused) → due opening s at ≡ w → follow w (literals_from (length s) (literal_at k s)) ≡ Ok next → Parts s k at next
    by_due (Ok x) e g =
        let o : token_at s (solid s at) ≡ Ok (Operator opening x) = due_of opening s at x e in
        let z : x ≡ solid s at + 2 = two_bytes s (solid s at) opening x (lit≤ tt) o in
        let r = literals_parts s k (length s) (solid s at + 2) next (rw z at g) in
        record { begins = solid s at; ends = r.0; comments = comments_are s at; opens = rw z at o; literals = r.1; closes = r.2 }
    by_due (Err w) e g = never (stop_past g)

pub no_body : {X : Type 0} (s : List ℕ) (at next : ℕ) → body_at zero s at ≡ Ok next → X
unfolding body_at follow
no_body {X = X} s at next h = by_due (due opening s at) h
  where
    by_due : (w : Result ℕ Refused) → follow w (λ x. Err (refusal_at TooDeep (solid s at))) ≡ Ok next → X
    by_due (Ok x) e = never (stop_past e)
    by_due (Err w) e = never (stop_past e)

-- `{` and `}` are two bytes each
pub body_long : (k : ℕ) (s : List ℕ) (at next : ℕ) → body_at k s at ≡ Ok next → solid s at + 4 ≤ next
body_long zero s at next h = no_body s at next h
body_long (suc k) s at next h =
    let p = parts_of k s at next h in
    omega (arith, solid_is s at p.begins p.comments, passes_later s k (p.begins + 2) p.ends p.literals, two_bytes s p.ends closing next (lit≤ tt) p.closes)

pub body_of : (k : ℕ) (s : List ℕ) (at next : ℕ) → Parts s k at next → body_at (suc k) s at ≡ Ok next
unfolding body_at follow
body_of k s at next p = rw (due_is opening s at p.begins (p.begins + 2) p.comments p.opens) (literals_of s k (length s) (p.begins + 2) p.ends next (omega arith) p.literals p.closes)
