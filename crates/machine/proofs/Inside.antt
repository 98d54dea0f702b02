-- Tokens, bodies and held bodies end inside the bytes that they are read from, whatever those bytes are. In order: a token; comments; a
-- body; the literal at a place. Assumes nothing.
use Rattle.std.specs.Prelude.{Result, Ok, Err}
use Rattle.tokens.specs.declared.Refused.{Refused}
use Prim.Native.Nat.{ℕ, zero, suc, ◌+◌, ◌<◌, ◌≤◌}
use native.Mathlib.Nat.{le_refl}
use native.Mathlib.Omega.{arith}
use mathlib.Core.List.{List}
use lib.Dec.{eqb}
use lib.ListN.{length}
use Rattle.tokens.specs.declared.Read.{Read}
use Rattle.tokens.specs.declared.Read.TheVariants.{Number, Identifier, String, Operator, Comment}
use Rattle.tokens.specs.Token.{token_at}
use Rattle.numbers.proofs.Cond.{either}
use Rattle.tokens.proofs.Told.{Tells, Spans}
use Rattle.tokens.proofs.Theorems.{token_tells_all}
use Rattle.machine.specs.declared.Role.{Role}
use Rattle.machine.specs.declared.Role.TheVariants as role
use Rattle.machine.specs.declared.Passed.{Passed}
use Rattle.machine.specs.declared.Passed.TheVariants.{On, Closed}
use Rattle.machine.specs.declared.Literal.{Literal}
use Rattle.machine.specs.declared.Literal.TheVariants as literal
use Rattle.machine.specs.Limits.{most_open}
use Rattle.machine.specs.Skeleton.{opening, role_of, past_comment, solid_from, solid, follow, and_then, held, passing, literal_by, due_by, due, literals_from, body_at, literal_at}
use Rattle.machine.specs.Literal.{nothing_at, holding_by, holding_at, operator_by, found_by, found_at}

-- ---- a token

-- a token that is read ends past its place, inside the n bytes
abbrev pub EndsIn : ℕ → ℕ → Result Read Refused → Type 0
EndsIn n at (Ok (Number value next)) = Spans n at next
EndsIn n at (Ok (Identifier len next)) = Spans n at next
EndsIn n at (Ok (String count next)) = Spans n at next
EndsIn n at (Ok (Operator m next)) = Spans n at next
EndsIn n at (Ok (Comment next)) = Spans n at next
EndsIn n at (Err w) = Unit

ends_in : (s : List ℕ) (at : ℕ) (t : Result Read Refused) → Tells s at t → EndsIn (length s) at t
ends_in s at (Ok (Number value next)) h = h.1
ends_in s at (Ok (Identifier len next)) h = (omega (arith, h.longer), h.inside)
ends_in s at (Ok (String count next)) h = (omega (arith, h.longer), h.inside)
ends_in s at (Ok (Operator n next)) h = h.1
ends_in s at (Ok (Comment next)) h = h
ends_in s at (Err w) h = tt

pub token_inside : (s : List ℕ) (at : ℕ) → EndsIn (length s) at (token_at s at)
token_inside s at = ends_in s at (token_at s at) (token_tells_all s at)

-- ---- comments

past_comment_lem : (n at : ℕ) (t : Result Read Refused) (rest : ℕ → ℕ) → EndsIn n at t → ((p : ℕ) → p ≤ rest p) → at ≤ past_comment t at rest
unfolding past_comment
past_comment_lem n at (Ok (Number value next)) rest h r = le_refl _
past_comment_lem n at (Ok (Identifier len next)) rest h r = le_refl _
past_comment_lem n at (Ok (String count next)) rest h r = le_refl _
past_comment_lem n at (Ok (Operator m next)) rest h r = le_refl _
past_comment_lem n at (Ok (Comment next)) rest h r = omega (arith, h.0, r next)
past_comment_lem n at (Err w) rest h r = le_refl _

solid_from_lem : (k : ℕ) (s : List ℕ) (at : ℕ) → at ≤ solid_from k s at
unfolding solid_from
solid_from_lem zero s at = le_refl _
solid_from_lem (suc k) s at = past_comment_lem (length s) at (token_at s at) (solid_from k s) (token_inside s at) (λ p. solid_from_lem k s p)

pub solid_past : (s : List ℕ) (at : ℕ) → at ≤ solid s at
unfolding solid
solid_past s at = solid_from_lem (length s) s at

-- ---- a body

-- reading that goes on does so from above low, inside the n bytes
abbrev pub WentIn : ℕ → ℕ → Result ℕ Refused → Type 0
WentIn n low (Ok next) = Spans n low next
WentIn n low (Err w) = Unit

abbrev pub PassedIn : ℕ → ℕ → Result Passed Refused → Type 0
PassedIn n low (Ok (On next)) = Spans n low next
PassedIn n low (Ok (Closed next)) = Spans n low next
PassedIn n low (Err w) = Unit

pub went_lower : (n low at : ℕ) (w : Result ℕ Refused) → low ≤ at → WentIn n at w → WentIn n low w
went_lower n low at (Ok next) h e = (omega (arith, e.0), e.1)
went_lower n low at (Err w) h e = tt

follow_inside : (n low at : ℕ) (w : Result ℕ Refused) (rest : ℕ → Result ℕ Refused) → WentIn n at w → ((p : ℕ) → at < p → WentIn n low (rest p))
    → WentIn n low (follow w rest)
unfolding follow
follow_inside n low at (Ok next) rest h r = r next h.0
follow_inside n low at (Err w) rest h r = tt

then_inside : (n at : ℕ) (p : Result Passed Refused) (rest : ℕ → Result ℕ Refused) → PassedIn n at p → ((q : ℕ) → WentIn n q (rest q))
    → WentIn n at (and_then p rest)
unfolding and_then
then_inside n at (Ok (On next)) rest h r = went_lower n at next (rest next) (omega (arith, h.0)) (r next)
then_inside n at (Ok (Closed next)) rest h r = h
then_inside n at (Err w) rest h r = tt

literals_inside : (n k : ℕ) (one : ℕ → Result Passed Refused) (at : ℕ) → ((p : ℕ) → PassedIn n p (one p)) → WentIn n at (literals_from k one at)
unfolding literals_from
literals_inside n zero one at h = tt
literals_inside n (suc k) one at h = then_inside n at (one at) (literals_from k one) (h at) (λ q. literals_inside n k one q h)

held_inside : (n low : ℕ) (w : Result ℕ Refused) → WentIn n low w → PassedIn n low (held w)
unfolding held
held_inside n low (Ok next) h = h
held_inside n low (Err w) h = tt

module _ (n at : ℕ) (inner : ℕ → Result ℕ Refused) (inside : (p : ℕ) → WentIn n p (inner p)) where
  passing_inside : (r : Role) (next : ℕ) → Spans n at next → PassedIn n at (passing r at inner next)
  unfolding passing
  passing_inside role.Plain next h = h
  passing_inside role.Holds next h = held_inside n at (inner next) (went_lower n at next (inner next) (omega (arith, h.0)) (inside next))
  passing_inside role.Closes next h = h
  passing_inside role.Barred next h = tt

  literal_inside : (t : Result Read Refused) → EndsIn n at t → PassedIn n at (literal_by at inner t)
  unfolding literal_by
  literal_inside (Ok (Number value next)) h = h
  literal_inside (Ok (Identifier len next)) h = h
  literal_inside (Ok (String count next)) h = h
  literal_inside (Ok (Operator m next)) h = passing_inside (role_of m) next h
  literal_inside (Ok (Comment next)) h = h
  literal_inside (Err w) h = tt

due_by_lem : (n m at : ℕ) (t : Result Read Refused) → EndsIn n at t → WentIn n at (due_by m at t)
unfolding due_by
due_by_lem n m at (Ok (Number value next)) h = tt
due_by_lem n m at (Ok (Identifier len next)) h = tt
due_by_lem n m at (Ok (String count next)) h = tt
due_by_lem n m at (Ok (Operator k next)) h = either (WentIn n at) (eqb k m) _ _ (λ _. h) (λ _. tt)
due_by_lem n m at (Ok (Comment next)) h = tt
due_by_lem n m at (Err w) h = tt

pub due_inside : (m : ℕ) (s : List ℕ) (at : ℕ) → WentIn (length s) (solid s at) (due m s at)
unfolding due
due_inside m s at = due_by_lem (length s) m (solid s at) (token_at s (solid s at)) (token_inside s (solid s at))

literals_of : (s : List ℕ) (inner : ℕ → Result ℕ Refused) → ((p : ℕ) → WentIn (length s) p (inner p)) → (at : ℕ)
    → WentIn (length s) at (literals_from (length s) (λ p. literal_by p inner (token_at s p)) at)
literals_of s inner h at =
    literals_inside (length s) (length s) (λ p. literal_by p inner (token_at s p)) at (λ p. literal_inside (length s) p inner h (token_at s p) (token_inside s p))

-- a body takes its `{` and its `}`, each a byte at least
pub body_inside : (k : ℕ) (s : List ℕ) (at : ℕ) → WentIn (length s) (solid s at + 1) (body_at k s at)
unfolding body_at
body_inside zero s at = follow_inside (length s) _ (solid s at) (due opening s at) _ (due_inside opening s at) (λ p h. tt)
body_inside (suc k) s at =
    let rest : ℕ → (Result ℕ Refused) = literals_from (length s) (literal_at k s) in
    follow_inside (length s) _ (solid s at) (due opening s at) rest (due_inside opening s at)
    (λ p h. went_lower (length s) (solid s at + 1) p (rest p) (omega arith)
    (literals_of s (body_at k s) (λ r. went_lower (length s) r (solid s r + 1) (body_at k s r) (omega (arith, solid_past s r)) (body_inside k s r)) p))

-- so is a body from any place before its `{`, and a literal in which k bodies may be open
pub body_later : (k : ℕ) (s : List ℕ) (at : ℕ) → WentIn (length s) at (body_at k s at)
body_later k s at = went_lower (length s) at (solid s at + 1) (body_at k s at) (omega (arith, solid_past s at)) (body_inside k s at)

pub literal_later : (k : ℕ) (s : List ℕ) (at : ℕ) → PassedIn (length s) at (literal_at k s at)
literal_later k s at = literal_inside (length s) at (body_at k s) (body_later k s) (token_at s at) (token_inside s at)

-- ---- the literal at a place

-- a held body lies inside the n bytes
abbrev pub HeldIn : ℕ → Literal → Type 0
HeldIn n (literal.Figure a) = Unit
HeldIn n (literal.Name start len) = Unit
HeldIn n (literal.Text start) = Unit
HeldIn n (literal.Plain m) = Unit
HeldIn n (literal.WithBody m start len) = start + len ≤ n

holding_inside : (b : List ℕ) (m q : ℕ) (w : Result ℕ Refused) → WentIn (length b) (q + 1) w → HeldIn (length b) (holding_by b m (q + 2) w).literal
unfolding holding_by nothing_at
holding_inside b m q (Ok next) h = omega (arith, h.0, h.1)
holding_inside b m q (Err w) h = tt

operator_inside : (r : Role) (b : List ℕ) (m next : ℕ) → HeldIn (length b) (operator_by r b m next).literal
unfolding operator_by holding_at nothing_at
operator_inside role.Plain b m next = tt
operator_inside role.Holds b m next = holding_inside b m (solid b next) (body_at most_open b next) (body_inside most_open b next)
operator_inside role.Closes b m next = tt
operator_inside role.Barred b m next = tt

found_by_lem : (b : List ℕ) (at : ℕ) (t : Result Read Refused) → HeldIn (length b) (found_by b at t).literal
unfolding found_by nothing_at
found_by_lem b at (Ok (Number value next)) = tt
found_by_lem b at (Ok (Identifier len next)) = tt
found_by_lem b at (Ok (String count next)) = tt
found_by_lem b at (Ok (Operator m next)) = operator_inside (role_of m) b m next
found_by_lem b at (Ok (Comment next)) = tt
found_by_lem b at (Err w) = tt

pub found_inside : (b : List ℕ) (at : ℕ) → HeldIn (length b) (found_at b at).literal
unfolding found_at
found_inside b at = found_by_lem b at (token_at b at)
