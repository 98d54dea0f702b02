-- The loops over comments and over a body's literals, a turn at a time. In order: comments; the literals of a body; a token by its form;
-- a body. Assumes nothing.
use Rattle.std.specs.Prelude.{Result, Ok, Err}
use Rattle.tokens.specs.Refusal.{refusal_at}
use Rattle.tokens.specs.declared.Refused.{Refused}
use mathlib.Core.Path.{◌≡◌, refl, sym, ap, ◌∙◌}
use mathlib.Core.List.{List}
use mathlib.Core.Bool.{Bool, true, false, not, false≢true}
use Prim.Native.Nat.{ℕ, zero, suc, ◌+◌, ◌-◌, ◌/◌, ◌%◌, ◌<◌, ◌≤◌}
use native.Mathlib.Omega.{arith}
use lib.ListN.{length, get_or}
use lib.Dec.{eqb, ltb}
use lib.IntN.{pos, ◌-ℤ◌}
use borrow.Author.Tests.{eq-eqb, ne_eqb}
use Rattle.numbers.specs.declared.Number.{Number}
use Rattle.numbers.specs.Fraction.{Answer, ratio_of}
use Rattle.numbers.specs.declared.NoNumber.TheVariants.{TooLarge, ByZero}
use Rattle.numbers.proofs.Cond.{either}
use Rattle.tokens.specs.declared.Read.{Read}
use Rattle.tokens.specs.declared.Read.TheVariants as read
use Rattle.tokens.specs.declared.Form.{Form}
use Rattle.tokens.specs.declared.Form.TheVariants as form
use Rattle.tokens.specs.declared.Rule.TheVariants.{Plain, Named}
use Rattle.tokens.specs.Format.{bias, string_type, integer_type, rational_type, identifier_type, comment_type, continued_type}
use Rattle.tokens.specs.Text.{every, is_name}
use Rattle.tokens.specs.Joined.{Joined, whole, cut_at, joined_at}
use Rattle.tokens.specs.Passing.{Shows, pass_of}
use Rattle.tokens.specs.declared.Refusal.{Refusal}
use Rattle.tokens.specs.declared.Refusal.TheVariants.{CutOff, TypeNotRead, BadData, NothingContinued, NotAllowed, TooDeep}
use Rattle.tokens.specs.Token.{number_read, integer_size, rational_size, integer_in, rational_in, ruled, judged, sequence, token_of, token_at}
use Rattle.tokens.proofs.Theorems.{token_end, token_sequence}
use Rattle.passing.proofs.Knowing.{sequence_shown}
use Rattle.machine.specs.declared.Role.{Role}
use Rattle.machine.specs.declared.Role.TheVariants as role
use Rattle.machine.specs.declared.Passed.{Passed}
use Rattle.machine.specs.declared.Passed.TheVariants.{On, Closed}
use Rattle.machine.specs.Skeleton.{opening, role_of, past_comment, solid_from, solid, follow, and_then, held, passing, due_by, due, literal_by, literals_from, body_at, literal_at}
use Rattle.machine.proofs.Inside.{EndsIn, token_inside, PassedIn, literal_later}
use Rattle.machine.specs.Readable.{NoComment}
use Rattle.machine.proofs.Comments.{none_at, stays, solid_is}

-- ---- comments

pub past : (k : ℕ) (s : List ℕ) (p : ℕ) → length s ≤ p + k → solid_from k s p ≡ past_comment (token_at s p) p (solid_from (k - 1) s)
unfolding solid_from past_comment
past zero s p h = rw (token_end s p (omega arith))
past (suc k) s p h = let e : suc k - 1 ≡ k = omega arith in rw e

-- where no comment stands, the place is found
pub stands : (k : ℕ) (s : List ℕ) (p at : ℕ) (t : Result Read Refused) → length s ≤ p + k → solid_from k s p ≡ solid s at → token_at s p ≡ t
    → NoComment t → p ≡ solid s at
stands k s p at t h e f n = sym (stays t p (solid_from (k - 1) s) n) ∙ (rw f at (sym (past k s p h) ∙ e))

-- a token that is no comment
pub solid_kind : (t : Read) → ((next : ℕ) → t ≡ read.Comment next → ⊥) → NoComment (Ok t)
solid_kind (read.Number value next) h = tt
solid_kind (read.Identifier len next) h = tt
solid_kind (read.String count next) h = tt
solid_kind (read.Operator n next) h = tt
solid_kind (read.Comment next) h = h next refl

-- what holds of every token but one kind holds of a sequence that is not of that kind
module _ (P : Result Read Refused → Type 0) (at : ℕ)
    (number : (v : Number) (next : ℕ) → P (Ok (read.Number v next)))
    (name : (len next : ℕ) → P (Ok (read.Identifier len next))) (text : (count next : ℕ) → P (Ok (read.String count next)))
    (unread : (refusal : Refusal) (place : ℕ) → P (Err (refusal_at refusal place))) where
  ruled_so : (good : Bool) (t : Result Read Refused) → P t → P (ruled at good t)
  ruled_so true t h = h
  ruled_so false t h = unread BadData at

  number_so : (next : ℕ) (a : Answer) → P (number_read at next a)
  unfolding number_read
  number_so next (Ok value) = number value next
  number_so next (Err TooLarge) = unread BadData at
  number_so next (Err ByZero) = unread BadData at

  sequence_so : (k : ℕ) (j : Joined) → ((next : ℕ) → eqb k comment_type ≡ true → P (Ok (read.Comment next))) → P (sequence k at j)
  unfolding sequence judged
  sequence_so k (whole d next) comment =
      either P (eqb k string_type) _ _ (λ _. ruled_so (every Plain d) _ (text (length d) next))
      (λ _. either P (eqb k integer_type) _ _ (λ _. ruled_so (integer_size (length d)) _ (number_so next (ratio_of (integer_in (length d) d) (pos 1))))
      (λ _. either P (eqb k rational_type) _ _ (λ _. ruled_so (rational_size (length d)) _ (number_so next (rational_in (length d / 2) d)))
      (λ _. either P (eqb k identifier_type) _ _ (λ _. ruled_so (is_name Named d) _ (name (length d) next))
      (λ _. either P (eqb k comment_type) _ _ (comment next)
      (λ _. either P (eqb k continued_type) _ _ (λ _. unread NothingContinued at) (λ _. unread TypeNotRead at))))))
  sequence_so k (cut_at place) comment = unread CutOff place

-- a comment's first byte ends in its type
module _ (s : List ℕ) (at : ℕ) where
  sequence_solid : (k : ℕ) (j : Joined) → eqb k comment_type ≡ false → NoComment (sequence k at j)
  sequence_solid k j h = sequence_so NoComment at (λ _ _. tt) (λ _ _. tt) (λ _ _. tt) (λ _ _. tt) k j (λ next e. absurd (false≢true (sym h ∙ e)))

  pub first_solid : (get_or s at 0 % 32 ≡ comment_type → ⊥) → NoComment (token_at s at)
  unfolding token_at token_of
  first_solid h =
      let b = get_or s at 0 in
      either NoComment (ltb at (length s)) _ _
      (λ _. either NoComment (ltb b 128) _ _ (λ _. either NoComment (ltb (at + 1) (length s)) _ _ (λ _. tt) (λ _. tt))
      (λ _. either NoComment (ltb b 160) _ _ (λ _. tt)
      (λ _. either NoComment (ltb b 192) _ _ (λ _. either NoComment (ltb (at + 1) (length s)) _ _ (λ _. tt) (λ _. tt))
      (λ _. sequence_solid (b % 32) (joined_at s at) (ne_eqb (b % 32) comment_type h)))))
      (λ _. tt)

  pub end_solid : length s ≤ at → NoComment (token_at s at)
  end_solid h = rw (token_end s at h) tt

  pub byte_solid : (r : ℕ) → r ≡ get_or s at 0 % 32 → not (eqb r comment_type) ≡ true → NoComment (token_at s at)
  byte_solid r e f = first_solid (λ z. absurd (false≢true (ap not (sym (eq-eqb r comment_type (e ∙ z))) ∙ f)))

pub stands_at : (s : List ℕ) (at : ℕ) → NoComment (token_at s at) → at ≡ solid s at
stands_at s at h = sym (solid_is s at at (none_at h))

-- ---- the literals of a body

-- one turn, where there is room for k literals and that is enough for what is left
pub turn : (m k : ℕ) (s : List ℕ) (p : ℕ) → length s ≤ p + k → literals_from k (literal_at m s) p ≡ and_then (literal_at m s p) (literals_from (k - 1) (literal_at m s))
unfolding literals_from literal_by and_then
turn m zero s p h = rw (token_end s p (omega arith))
turn m (suc k) s p h = let e : suc k - 1 ≡ k = omega arith in rw e

-- the literals from p on in which m bodies may be open end as those from `at` on do
abbrev pub Kept : ℕ → List ℕ → ℕ → ℕ → Type 0
Kept m s at p = (k : ℕ) × (length s ≤ p + k) × (literals_from k (literal_at m s) p ≡ literals_from (length s) (literal_at m s) at) × (at ≤ p)

module _ (m : ℕ) (s : List ℕ) (at p : ℕ) (i : Kept m s at p) where
  pub shorter : (next : ℕ) → literal_at m s p ≡ Ok (On next) → length s - next < length s - p
  shorter next e = let g : PassedIn (length s) p (Ok (On next)) = rw e at (literal_later m s p) in omega (arith, g.0, g.1)

  pub onward : (next : ℕ) → literal_at m s p ≡ Ok (On next) → Kept m s at next
  unfolding and_then
  onward next e =
      let g : PassedIn (length s) p (Ok (On next)) = rw e at (literal_later m s p) in
      (i.0 - 1, omega (arith, g.0, i.1), rw e at (sym (turn m i.0 s p i.1) ∙ i.2), omega (arith, g.0, i.3))

  pub ended : (next : ℕ) → literal_at m s p ≡ Ok (Closed next) → Ok next ≡ literals_from (length s) (literal_at m s) at
  unfolding and_then
  ended next e = rw e at (sym (turn m i.0 s p i.1) ∙ i.2)

  pub refused : (w : Refused) → literal_at m s p ≡ Err w → Err w ≡ literals_from (length s) (literal_at m s) at
  unfolding and_then
  refused w e = rw e at (sym (turn m i.0 s p i.1) ∙ i.2)

-- ---- a token by its form

abbrev pub NoOperator : Result Read Refused → Type 0
NoOperator (Ok (read.Number value next)) = Unit
NoOperator (Ok (read.Identifier len next)) = Unit
NoOperator (Ok (read.String count next)) = Unit
NoOperator (Ok (read.Operator n next)) = ⊥
NoOperator (Ok (read.Comment next)) = Unit
NoOperator (Err w) = Unit

unfoldable pub passed_by : Result ℕ Refused → Result Passed Refused
passed_by (Ok next) = Ok (On next)
passed_by (Err w) = Err w

by_pass : (at : ℕ) (inner : ℕ → Result ℕ Refused) (t : Result Read Refused) → NoOperator t → literal_by at inner t ≡ passed_by (pass_of t)
unfolding literal_by passed_by pass_of
by_pass at inner (Ok (read.Number value next)) h = refl
by_pass at inner (Ok (read.Identifier len next)) h = refl
by_pass at inner (Ok (read.String count next)) h = refl
by_pass at inner (Ok (read.Operator n next)) h = absurd h
by_pass at inner (Ok (read.Comment next)) h = refl
by_pass at inner (Err w) h = refl

unfoldable pub stopped_by : ℕ → Result ℕ Refused → Result ℕ Refused
stopped_by at (Ok next) = Err (refusal_at NotAllowed at)
stopped_by at (Err w) = Err w

not_due : (n at : ℕ) (t : Result Read Refused) → NoOperator t → due_by n at t ≡ stopped_by at (pass_of t)
unfolding due_by stopped_by pass_of
not_due n at (Ok (read.Number value next)) h = refl
not_due n at (Ok (read.Identifier len next)) h = refl
not_due n at (Ok (read.String count next)) h = refl
not_due n at (Ok (read.Operator m next)) h = absurd h
not_due n at (Ok (read.Comment next)) h = refl
not_due n at (Err w) h = refl

-- where `form_at` answered nothing
pub cut : (s : List ℕ) (p m : ℕ) → token_at s p ≡ Err (refusal_at CutOff p) → literal_at m s p ≡ Err (refusal_at CutOff p)
unfolding literal_by
cut s p m e = rw e

-- what `form_at` answered, f, and what it says
module _ (s : List ℕ) (p : ℕ) (f : Form) where
  pub number_shown : (raw next : ℕ) → f ≡ form.Number raw next → Shows s p f
      → token_at s p ≡ Ok (read.Number (record { num = pos raw -ℤ pos bias; den = 1 }) next)
  number_shown raw next e h = rw e at h

  pub operator_shown : (n next : ℕ) → f ≡ form.Operator n next → Shows s p f → token_at s p ≡ Ok (read.Operator n next)
  operator_shown n next e h = rw e at h

  -- an operator ends past its place, inside the bytes
  pub operator_ends : (n next : ℕ) → f ≡ form.Operator n next → Shows s p f → (p < next) × (next ≤ length s)
  operator_ends n next e h = let g : EndsIn (length s) p (Ok (read.Operator n next)) = rw (operator_shown n next e h) at (token_inside s p) in g

  pub no_operator : f ≡ form.Sequence → Shows s p f → NoOperator (token_at s p)
  no_operator e h =
      let g = sequence_shown s p f e h in
      rw (token_sequence s p g.0 g.1) (sequence_so NoOperator p (λ _ _. tt) (λ _ _. tt) (λ _ _. tt) (λ _ _. tt) (get_or s p 0 % 32) (joined_at s p) (λ _ _. tt))

  -- the literal there, in which m bodies may be open
  module _ (m : ℕ) where
    pub number_on : (raw next : ℕ) → f ≡ form.Number raw next → Shows s p f → literal_at m s p ≡ Ok (On next)
    unfolding literal_by
    number_on raw next e h = rw (number_shown raw next e h)

    operator_literal : (n next : ℕ) (r : Role) → f ≡ form.Operator n next → Shows s p f → r ≡ role_of n → literal_at m s p ≡ passing r p (body_at m s) next
    unfolding literal_by
    operator_literal n next r e h g = rw (operator_shown n next e h, g)

    pub plain_on : (n next : ℕ) (r : Role) → f ≡ form.Operator n next → Shows s p f → r ≡ role_of n → r ≡ role.Plain → literal_at m s p ≡ Ok (On next)
    unfolding passing
    plain_on n next r e h g k = operator_literal n next r e h g ∙ rw k

    pub closing : (n next : ℕ) (r : Role) → f ≡ form.Operator n next → Shows s p f → r ≡ role_of n → r ≡ role.Closes → literal_at m s p ≡ Ok (Closed next)
    unfolding passing
    closing n next r e h g k = operator_literal n next r e h g ∙ rw k

    pub barred : (n next : ℕ) (r : Role) → f ≡ form.Operator n next → Shows s p f → r ≡ role_of n → r ≡ role.Barred
        → literal_at m s p ≡ Err (refusal_at NotAllowed p)
    unfolding passing
    barred n next r e h g k = operator_literal n next r e h g ∙ rw k

    pub held_there : (n next : ℕ) (r : Role) → f ≡ form.Operator n next → Shows s p f → r ≡ role_of n → r ≡ role.Holds → literal_at m s p ≡ held (body_at m s next)
    unfolding passing
    held_there n next r e h g k = operator_literal n next r e h g ∙ rw k

    pub holding : (n next : ℕ) (r : Role) (w x : Result ℕ Refused) → f ≡ form.Operator n next → Shows s p f → r ≡ role_of n → r ≡ role.Holds
        → w ≡ body_at m s next → w ≡ x → literal_at m s p ≡ held x
    holding n next r w x e h g k b d = held_there n next r e h g k ∙ ap held (sym b ∙ d)

    pub passed : (q x : Result ℕ Refused) → f ≡ form.Sequence → Shows s p f → q ≡ pass_of (token_at s p) → q ≡ x → literal_at m s p ≡ passed_by x
    passed q x e h g k = by_pass p (body_at m s) (token_at s p) (no_operator e h) ∙ ap passed_by (sym g ∙ k)

  pub passed_due : (n : ℕ) (q x : Result ℕ Refused) → f ≡ form.Sequence → Shows s p f → q ≡ pass_of (token_at s p) → q ≡ x
      → stopped_by p x ≡ due_by n p (token_at s p)
  passed_due n q x e h g k = sym (not_due n p (token_at s p) (no_operator e h) ∙ ap (stopped_by p) (sym g ∙ k))

-- a short number
pub not_due_there : (s : List ℕ) (p : ℕ) (f : Form) (n : ℕ) → Shows s p f → ((m next : ℕ) → f ≡ form.Operator m next → ⊥) → (f ≡ form.Sequence → ⊥)
    → Err (refusal_at NotAllowed p) ≡ due_by n p (token_at s p)
unfolding due_by
not_due_there s p (form.Number raw next) n h g k = rw (number_shown s p _ raw next refl h)
not_due_there s p (form.Operator m next) n h g k = absurd (g m next refl)
not_due_there s p form.Sequence n h g k = absurd (k refl)

-- ---- a body

pub due_there : (n : ℕ) (s : List ℕ) (at q : ℕ) (w : Result ℕ Refused) → q ≡ solid s at → w ≡ due_by n q (token_at s q) → due n s at ≡ w
unfolding due
due_there n s at q w e f = rw (f, e)

pub stopped : (left : ℕ) (s : List ℕ) (at : ℕ) (w : Refused) → due opening s at ≡ Err w → Err w ≡ body_at left s at
unfolding body_at follow
stopped zero s at w e = rw e
stopped (suc k) s at w e = rw e

pub full : (left : ℕ) (s : List ℕ) (at next : ℕ) → due opening s at ≡ Ok next → left ≡ 0 → Err (refusal_at TooDeep (solid s at)) ≡ body_at left s at
unfolding body_at follow
full left s at next e h = rw (h, e)

pub entered : (left : ℕ) (s : List ℕ) (at next : ℕ) → due opening s at ≡ Ok next → 0 < left
    → literals_from (length s) (literal_at (left - 1) s) next ≡ body_at left s at
unfolding body_at follow
entered zero s at next e h = absurd (omega arith)
entered (suc k) s at next e h = let f : suc k - 1 ≡ k = omega arith in rw (e, f)
