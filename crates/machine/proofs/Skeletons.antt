-- What a skeleton can be: sound with 1 to 513 bodies, or refused by one of the refusals 1 to 9. Assumes nothing.
use Rattle.std.specs.Prelude.{Result, Ok, Err}
use Rattle.tokens.specs.Refusal.{refusal_at}
use Rattle.tokens.specs.declared.Refused.{Refused}
use Prim.Native.Nat.{ℕ, zero, suc, ◌+◌, ◌≤◌}
use native.Mathlib.Omega.{arith}
use mathlib.Core.List.{List, [], ◌∷◌, ◌++◌}
use lib.Dec.{eqb, leb}
use lib.ListN.{length, length-append}
use borrow.Author.Tests.{leb-true}
use Rattle.tokens.specs.declared.Read.{Read}
use Rattle.tokens.specs.declared.Read.TheVariants.{Number, Identifier, String, Operator, Comment}
use Rattle.tokens.specs.declared.Refusal.TheVariants.{BadHeader, NotAllowed, AfterEnd, TooManyPages}
use Rattle.tokens.specs.Format.{header, starts}
use Rattle.tokens.specs.Token.{token_at}
use Rattle.numbers.proofs.Cond.{either}
use Rattle.machine.specs.declared.Role.{Role}
use Rattle.machine.specs.declared.Role.TheVariants.{Plain, Holds, Closes, Barred}
use Rattle.machine.specs.declared.Passed.{Passed}
use Rattle.machine.specs.declared.Passed.TheVariants.{On, Closed}
use Rattle.machine.specs.Limits.{most_open, most_pages}
use Rattle.machine.specs.Skeleton.{ending, beginning, opening, role_of, solid, follow, and_then, held, passing, literal_by, due_by, due, literals_from, body_at, Span, Skeleton, sound, refused, onward, span_of, ended_at, page_at, outer_by, pages_from, preamble_at, skeleton_of}
use Rattle.machine.proofs.TokenRefusals.{Early, ReadEarly, unread, token_early}

-- ---- bodies and literals

abbrev WentEarly : Result ℕ Refused → Type 0
WentEarly (Ok next) = Unit
WentEarly (Err why) = Early why.refusal

abbrev PassedEarly : Result Passed Refused → Type 0
PassedEarly (Ok (On next)) = Unit
PassedEarly (Ok (Closed next)) = Unit
PassedEarly (Err why) = Early why.refusal

follow_early : (v : Result ℕ Refused) (rest : ℕ → Result ℕ Refused) → WentEarly v → ((n : ℕ) → WentEarly (rest n)) → WentEarly (follow v rest)
unfolding follow
follow_early (Ok next) rest e f = f next
follow_early (Err why) rest e f = e

then_early : (v : Result Passed Refused) (rest : ℕ → Result ℕ Refused) → PassedEarly v → ((n : ℕ) → WentEarly (rest n)) → WentEarly (and_then v rest)
unfolding and_then
then_early (Ok (On next)) rest e f = f next
then_early (Ok (Closed next)) rest e f = tt
then_early (Err why) rest e f = e

held_early : (v : Result ℕ Refused) → WentEarly v → PassedEarly (held v)
unfolding held
held_early (Ok next) e = tt
held_early (Err why) e = e

passing_early : (r : Role) (at : ℕ) (inner : ℕ → Result ℕ Refused) (next : ℕ) → ((n : ℕ) → WentEarly (inner n)) → PassedEarly (passing r at inner next)
unfolding passing
passing_early Plain at inner next f = tt
passing_early Holds at inner next f = held_early (inner next) (f next)
passing_early Closes at inner next f = tt
passing_early Barred at inner next f = omega arith

literal_early : (at : ℕ) (inner : ℕ → Result ℕ Refused) (x : Result Read Refused) → ReadEarly x → ((n : ℕ) → WentEarly (inner n))
    → PassedEarly (literal_by at inner x)
unfolding literal_by
literal_early at inner (Ok (Number value next)) e f = tt
literal_early at inner (Ok (Identifier len next)) e f = tt
literal_early at inner (Ok (String count next)) e f = tt
literal_early at inner (Ok (Operator n next)) e f = passing_early (role_of n) at inner next f
literal_early at inner (Ok (Comment next)) e f = tt
literal_early at inner (Err why) (unread _ e) f = e

due_by_lem : (n at : ℕ) (x : Result Read Refused) → ReadEarly x → WentEarly (due_by n at x)
unfolding due_by
due_by_lem n at (Ok (Number value next)) e = omega arith
due_by_lem n at (Ok (Identifier len next)) e = omega arith
due_by_lem n at (Ok (String count next)) e = omega arith
due_by_lem n at (Ok (Operator m next)) e = either WentEarly (eqb m n) (Ok next) (Err (refusal_at NotAllowed at)) (λ _. tt) (λ _. omega arith)
due_by_lem n at (Ok (Comment next)) e = omega arith
due_by_lem n at (Err why) (unread _ e) = e

due_early : (n : ℕ) (s : List ℕ) (at : ℕ) → WentEarly (due n s at)
unfolding due
due_early n s at = due_by_lem n (solid s at) (token_at s (solid s at)) (token_early s (solid s at))

literals_early : (k : ℕ) (one : ℕ → Result Passed Refused) (at : ℕ) → ((n : ℕ) → PassedEarly (one n)) → WentEarly (literals_from k one at)
unfolding literals_from
literals_early zero one at f = omega arith
literals_early (suc k) one at f = then_early (one at) (literals_from k one) (f at) (λ n. literals_early k one n f)

body_early : (k : ℕ) (s : List ℕ) (at : ℕ) → WentEarly (body_at k s at)
unfolding body_at
body_early zero s at = follow_early (due opening s at) _ (due_early opening s at) (λ n. omega arith)
body_early (suc k) s at =
    follow_early (due opening s at) _ (due_early opening s at)
    (λ n. literals_early (length s) _ n (λ p. literal_early p (body_at k s) (token_at s p) (token_early s p) (body_early k s)))

-- ---- the master

-- the preamble and at most 512 pages
abbrev pub Fits : Skeleton → Type 0
Fits (sound spans) = (1 ≤ length spans) × (length spans ≤ most_pages + 1)
Fits (refused w p) = Early w

onward_fits : (v : Result ℕ Refused) (rest : ℕ → Skeleton) → WentEarly v → ((n : ℕ) → Fits (rest n)) → Fits (onward v rest)
unfolding onward
onward_fits (Ok next) rest e f = f next
onward_fits (Err why) rest e f = e

ended_fits : (s : List ℕ) (spans : List Span) (next : ℕ) → Fits (sound spans) → Fits (ended_at s spans next)
unfolding ended_at
ended_fits s spans next h = either Fits (eqb next (length s)) (sound spans) (refused AfterEnd next) (λ _. h) (λ _. omega arith)

module _ (s : List ℕ) (rest : ℕ → List Span → Skeleton) (f : (n : ℕ) (spans : List Span) → Fits (sound spans) → Fits (rest n spans)) where
  page_fits : (spans : List Span) (at : ℕ) → Fits (sound spans) → Fits (page_at s spans at rest)
  unfolding page_at
  page_fits spans at h =
      either Fits (leb (length spans) most_pages) _ (refused TooManyPages at)
      (λ e. onward_fits (body_at most_open s at) _ (body_early most_open s at)
      (λ n. f n (spans ++ (span_of at n ∷ [])) (simp length-append (omega arith), simp length-append (omega (arith, leb-true (length spans) most_pages e)))))
      (λ _. omega arith)

  outer_fits : (spans : List Span) (at : ℕ) (x : Result Read Refused) → ReadEarly x → Fits (sound spans) → Fits (outer_by s spans at x rest)
  unfolding outer_by
  outer_fits spans at (Ok (Number value next)) e h = omega arith
  outer_fits spans at (Ok (Identifier len next)) e h = omega arith
  outer_fits spans at (Ok (String count next)) e h = omega arith
  outer_fits spans at (Ok (Operator n next)) e h =
      either Fits (eqb n opening) _ _ (λ _. page_fits spans at h)
      (λ _. either Fits (eqb n ending) _ (refused NotAllowed at) (λ _. ended_fits s spans next h) (λ _. omega arith))
  outer_fits spans at (Ok (Comment next)) e h = f next spans h
  outer_fits spans at (Err why) (unread _ e) h = e

pages_fit : (k : ℕ) (s : List ℕ) (at : ℕ) (spans : List Span) → Fits (sound spans) → Fits (pages_from k s at spans)
unfolding pages_from
pages_fit zero s at spans h = omega arith
pages_fit (suc k) s at spans h = outer_fits s (pages_from k s) (pages_fit k s) spans at (token_at s at) (token_early s at) h

preamble_fits : (s : List ℕ) (at : ℕ) → Fits (preamble_at s at)
unfolding preamble_at
preamble_fits s at = onward_fits (body_at most_open s at) _ (body_early most_open s at) (λ n. pages_fit (length s) s n _ (omega arith, omega arith))

pub skeleton_fits : (s : List ℕ) → Fits (skeleton_of s)
unfolding skeleton_of
skeleton_fits s =
    either Fits (starts header s) _ (refused BadHeader 0)
    (λ _. onward_fits (due beginning s 21) (preamble_at s) (due_early beginning s 21) (preamble_fits s)) (λ _. omega arith)
