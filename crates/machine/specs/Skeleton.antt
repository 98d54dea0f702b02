-- The skeleton of a master (01, Skeleton: "header, BEGIN (102), preamble body, page bodies, END (103)"; R4 to R9). A body is `{`, literals,
-- `}`; a literal of a body operator holds a body directly after it, comments aside. Every refusal with its place, in 01's order of
-- judging: the token itself (2, 3, 5, 4), then 6, 8, 9. In order: operators to the skeleton; comments; bodies and literals, each by
-- the other; the master. Assumes nothing.
use Rattle.std.specs.Prelude.{Result, Ok, Err, ℕ, zero, suc, ◌+◌, ◌-◌, Bool, false, cond, ◌||◌, List, [], ◌∷◌, ◌++◌, eqb, leb, length}
use Rattle.tokens.specs.Refusal.{refusal_at}
use Rattle.tokens.specs.declared.Refused.{Refused}
use Rattle.tokens.specs.declared.Read.{Read}
use Rattle.tokens.specs.declared.Read.TheVariants.{Number, Identifier, String, Operator, Comment}
use Rattle.tokens.specs.declared.Refusal.{Refusal}
use Rattle.tokens.specs.declared.Refusal.TheVariants.{BadHeader, CutOff, NotAllowed, AfterEnd, TooDeep, TooManyPages}
use Rattle.tokens.specs.Format.{header, starts}
use Rattle.tokens.specs.Token.{token_at}
use Rattle.machine.specs.declared.Role.{Role}
use Rattle.machine.specs.declared.Role.TheVariants.{Plain, Holds, Closes, Barred}
use Rattle.machine.specs.declared.Passed.{Passed}
use Rattle.machine.specs.declared.Passed.TheVariants.{On, Closed}
use Rattle.machine.specs.Limits.{most_open, most_pages}

-- ---- operators, to the skeleton (table 2.1, appendix B)

abbrev pub beginning : ℕ
beginning = 102

abbrev pub ending : ℕ
ending = 103

abbrev pub content_instructions : ℕ
content_instructions = 105

abbrev pub opening : ℕ
opening = 106

abbrev pub closing : ℕ
closing = 107

-- CORRECT, MAKESIMPLECO, DOSAVESIMPLEBODY, IF, IFCOPY, IFELSE
abbrev pub holders : List ℕ
holders = 110 ∷ 114 ∷ 120 ∷ 239 ∷ 240 ∷ 241 ∷ []

-- "BEGIN, END and CONTENTINSTRUCTIONS in a body are refused", and a `{` that no body operator stands before
abbrev pub barred : List ℕ
barred = beginning ∷ ending ∷ content_instructions ∷ opening ∷ []

unfoldable pub one_of : List ℕ → ℕ → Bool
one_of [] n = false
one_of (x ∷ xs) n = eqb n x || one_of xs n

unfoldable pub role_of : ℕ → Role
role_of n = cond (eqb n closing) Closes (cond (one_of holders n) Holds (cond (one_of barred n) Barred Plain))

-- ---- comments

-- at most k comments are passed over
unfoldable pub past_comment : Result Read Refused → ℕ → (ℕ → ℕ) → ℕ
past_comment (Ok (Number value next)) at rest = at
past_comment (Ok (Identifier len next)) at rest = at
past_comment (Ok (String count next)) at rest = at
past_comment (Ok (Operator n next)) at rest = at
past_comment (Ok (Comment next)) at rest = rest next
past_comment (Err w) at rest = at

unfoldable pub solid_from : ℕ → List ℕ → ℕ → ℕ
solid_from zero s at = at
solid_from (suc k) s at = past_comment (token_at s at) at (solid_from k s)

-- the first place from `at` on where no comment stands
unfoldable pub solid : List ℕ → ℕ → ℕ
solid s at = solid_from (length s) s at

-- ---- bodies and literals

-- what follows, where there was no refusal
unfoldable pub follow : Result ℕ Refused → (ℕ → Result ℕ Refused) → Result ℕ Refused
follow (Ok next) rest = rest next
follow (Err w) rest = Err w

unfoldable pub and_then : Result Passed Refused → (ℕ → Result ℕ Refused) → Result ℕ Refused
and_then (Ok (On next)) rest = rest next
and_then (Ok (Closed next)) rest = Ok next
and_then (Err w) rest = Err w

-- a literal that holds a body goes as far as the body
unfoldable pub held : Result ℕ Refused → Result Passed Refused
held (Ok next) = Ok (On next)
held (Err w) = Err w

-- the operator at `at` that ends at `next`, by its role; `inner` reads a body
unfoldable pub passing : Role → ℕ → (ℕ → Result ℕ Refused) → ℕ → Result Passed Refused
passing Plain at inner next = Ok (On next)
passing Holds at inner next = held (inner next)
passing Closes at inner next = Ok (Closed next)
passing Barred at inner next = Err (refusal_at NotAllowed at)

-- the literal, or the comment, that the token at `at` begins
unfoldable pub literal_by : ℕ → (ℕ → Result ℕ Refused) → Result Read Refused → Result Passed Refused
literal_by at inner (Ok (Number value next)) = Ok (On next)
literal_by at inner (Ok (Identifier len next)) = Ok (On next)
literal_by at inner (Ok (String count next)) = Ok (On next)
literal_by at inner (Ok (Operator n next)) = passing (role_of n) at inner next
literal_by at inner (Ok (Comment next)) = Ok (On next)
literal_by at inner (Err w) = Err w

-- the operator n that is due where a token was read
unfoldable pub due_by : ℕ → ℕ → Result Read Refused → Result ℕ Refused
due_by n at (Ok (Number value next)) = Err (refusal_at NotAllowed at)
due_by n at (Ok (Identifier len next)) = Err (refusal_at NotAllowed at)
due_by n at (Ok (String count next)) = Err (refusal_at NotAllowed at)
due_by n at (Ok (Operator m next)) = cond (eqb m n) (Ok next) (Err (refusal_at NotAllowed at))
due_by n at (Ok (Comment next)) = Err (refusal_at NotAllowed at)
due_by n at (Err w) = Err w

-- the operator n that is due from `at` on, comments aside
unfoldable pub due : ℕ → List ℕ → ℕ → Result ℕ Refused
due n s at = let q = solid s at in due_by n q (token_at s q)

-- literals up to the `}` that closes their body, at most k of them
unfoldable pub literals_from : ℕ → (ℕ → Result Passed Refused) → ℕ → Result ℕ Refused
literals_from zero one at = Err (refusal_at CutOff at)
literals_from (suc k) one at = and_then (one at) (literals_from k one)

-- the body whose `{` is due from `at` on, where k more bodies may be open; it ends past its `}`
unfoldable pub body_at : ℕ → List ℕ → ℕ → Result ℕ Refused
body_at zero s at = follow (due opening s at) (λ next. Err (refusal_at TooDeep (solid s at)))
body_at (suc k) s at = follow (due opening s at) (literals_from (length s) (λ p. literal_by p (body_at k s) (token_at s p)))

-- the literal, or the comment, at `at` of a body in which k more bodies may be open
abbrev pub literal_at : ℕ → List ℕ → ℕ → Result Passed Refused
literal_at k s at = literal_by at (body_at k s) (token_at s at)

-- ---- the master

-- a body that the engine runs: just after its `{`, and the bytes before its `}`
pub record Span : Type 0 where
  pub start : ℕ
  pub len : ℕ

-- the preamble and the pages, or the refusal met and its place
pub data Skeleton : Type 0 where
  sound : List Span → Skeleton
  refused : Refusal → ℕ → Skeleton

unfoldable pub onward : Result ℕ Refused → (ℕ → Skeleton) → Skeleton
onward (Ok next) rest = rest next
onward (Err w) rest = refused w.refusal w.place

-- the body from its `{` at `at` to `next`, past its `}`; each of the two is two bytes
unfoldable pub span_of : ℕ → ℕ → Span
span_of at next = record { start = at + 2; len = next - 2 - (at + 2) }

-- END ends the master: "bytes after END"
unfoldable pub ended_at : List ℕ → List Span → ℕ → Skeleton
ended_at s spans next = cond (eqb next (length s)) (sound spans) (refused AfterEnd next)

-- a page's `{` at `at`: "a 513th page" is judged before anything in it
unfoldable pub page_at : List ℕ → List Span → ℕ → (ℕ → List Span → Skeleton) → Skeleton
page_at s spans at rest =
    cond (leb (length spans) most_pages) (onward (body_at most_open s at) (λ next. rest next (spans ++ (span_of at next ∷ []))))
    (refused TooManyPages at)

-- where a page or END is due
unfoldable pub outer_by : List ℕ → List Span → ℕ → Result Read Refused → (ℕ → List Span → Skeleton) → Skeleton
outer_by s spans at (Ok (Number value next)) rest = refused NotAllowed at
outer_by s spans at (Ok (Identifier len next)) rest = refused NotAllowed at
outer_by s spans at (Ok (String count next)) rest = refused NotAllowed at
outer_by s spans at (Ok (Operator n next)) rest =
    cond (eqb n opening) (page_at s spans at rest) (cond (eqb n ending) (ended_at s spans next) (refused NotAllowed at))
outer_by s spans at (Ok (Comment next)) rest = rest next spans
outer_by s spans at (Err w) rest = refused w.refusal w.place

-- the bodies so far are `spans`, the preamble's first; at most k tokens more outside bodies
unfoldable pub pages_from : ℕ → List ℕ → ℕ → List Span → Skeleton
pages_from zero s at spans = refused CutOff at
pages_from (suc k) s at spans = outer_by s spans at (token_at s at) (pages_from k s)

-- the preamble, whose `{` is due from `at` on, and what follows
unfoldable pub preamble_at : List ℕ → ℕ → Skeleton
preamble_at s at = onward (body_at most_open s at) (λ next. pages_from (length s) s next (span_of (solid s at) next ∷ []))

-- header, BEGIN, preamble, pages, END
unfoldable pub skeleton_of : List ℕ → Skeleton
skeleton_of s = cond (starts header s) (onward (due beginning s 21) (preamble_at s)) (refused BadHeader 0)
