-- Bytes by origin, and what is read of those that are not there. Assumes nothing.
use Rattle.std.specs.Prelude.{Result, Ok, Err}
use Rattle.tokens.specs.declared.Refused.{Refused}
use Prim.Native.Nat.{ℕ, zero, suc, ◌<◌, ◌≤◌}
use native.Mathlib.Omega.{arith}
use mathlib.Core.Path.{◌≡◌, refl}
use mathlib.Core.Logic.{⊎_elim}
use mathlib.Core.List.{List, [], ◌∷◌}
use lib.ListN.{length}
use Rattle.tokens.specs.declared.Read.{Read}
use Rattle.tokens.specs.declared.Read.TheVariants as read
use Rattle.tokens.specs.Format.{longest}
use Rattle.tokens.specs.Token.{token_at}
use Rattle.machine.specs.declared.Role.{Role}
use Rattle.machine.specs.declared.Role.TheVariants as role
use Rattle.machine.specs.declared.Literal.TheVariants.{Plain}
use Rattle.machine.specs.Limits.{most_open}
use Rattle.machine.specs.Skeleton.{role_of, solid, body_at}
use Rattle.machine.specs.Literal.{bytes_of, nothing_at, holding_by, holding_at, operator_by, found_by, found_at}
use Rattle.machine.proofs.Inside.{EndsIn, token_inside, WentIn, went_lower, body_later}
use Rattle.machine.proofs.Comments.{comments_are}
use Rattle.literals.specs.declared.Ahead.{Ahead}
use Rattle.literals.specs.declared.Due.{Due}
use Rattle.literals.specs.Dues.{LiteralThere, Is, Passes}
use Rattle.literals.proofs.Passing.{comments_end, solid_inside}
use Rattle.names.specs.Names.{both}
use Rattle.tokens.proofs.Theorems.{token_end}
use Rattle.spans.specs.Memo.{Noted}
use Rattle.origins.specs.Bodies.{Short, Noting}

pub bytes_short : (pre body : List ℕ) (o : ℕ) → Short pre body → length (bytes_of (both pre body) o) ≤ longest
bytes_short pre body zero h = h.pre_fits
bytes_short pre body (suc zero) h = h.body_fits
bytes_short pre body (suc (suc o)) h = omega arith

pub nothing_there : (pre body : List ℕ) (o : ℕ) → (o ≡ 0 → ⊥) → (o ≡ 1 → ⊥) → [] ≡ bytes_of (both pre body) o
nothing_there pre body zero f g = absurd (f refl)
nothing_there pre body (suc zero) f g = absurd (g refl)
nothing_there pre body (suc (suc o)) f g = refl

-- ---- no bytes

pub empty : (d : List ℕ) → 0 ≡ length d → d ≡ []
empty [] e = refl
empty (b ∷ d) e = absurd (omega arith)

-- ---- a place past comments fits where the place and the bytes do

solid_fits : (s : List ℕ) (at m : ℕ) → at < m → length s < m → solid s at < m
solid_fits s at m h l = ⊎_elim (λ e. omega arith) (λ k. omega arith) (comments_end s at (solid s at) (comments_are s at))

-- ---- where the next literal stands is inside the bytes

went_next : (b : List ℕ) (n start : ℕ) (w : Result ℕ Refused) → WentIn (length b) 0 w → (holding_by b n start w).next ≤ length b
unfolding holding_by nothing_at
went_next b n start (Ok next) h = solid_inside b next h.1
went_next b n start (Err w) h = omega arith

role_next : (b : List ℕ) (n next : ℕ) (r : Role) → next ≤ length b → (operator_by r b n next).next ≤ length b
unfolding operator_by holding_at nothing_at
role_next b n next role.Plain h = solid_inside b next h
role_next b n next role.Holds h =
    let w = body_at most_open b next in
    went_next b n _ w (went_lower (length b) 0 next w (omega arith) (body_later most_open b next))
role_next b n next role.Closes h = omega arith
role_next b n next role.Barred h = omega arith

token_next : (b : List ℕ) (at : ℕ) (t : Result Read Refused) → EndsIn (length b) at t → (found_by b at t).next ≤ length b
unfolding found_by nothing_at
token_next b at (Ok (read.Number value next)) h = solid_inside b next h.1
token_next b at (Ok (read.Identifier len next)) h = solid_inside b next h.1
token_next b at (Ok (read.String count next)) h = solid_inside b next h.1
token_next b at (Ok (read.Operator n next)) h = role_next b n next (role_of n) h.1
token_next b at (Ok (read.Comment next)) h = omega arith
token_next b at (Err w) h = omega arith

pub next_inside : (b : List ℕ) (at : ℕ) → (found_at b at).next ≤ length b
unfolding found_at
next_inside b at = token_next b at (token_at b at) (token_inside b at)

-- ---- a place past comments is a word

pub place_word : (pre body b : List ℕ) (o at q : ℕ) → b ≡ bytes_of (both pre body) o → Short pre body → at < 4294967296 → q ≡ solid b at → q < 4294967296
place_word pre body b o at q eb short h e =
    let long : length b ≤ longest = rw eb (bytes_short pre body o short) in
    rw e (solid_fits b at 4294967296 h (omega arith))

-- ---- the body with the origin o has the bytes b

pub ends_fit : (pre body b : List ℕ) (o : ℕ) → b ≡ bytes_of (both pre body) o → Short pre body → length b ≤ 16777215
ends_fit pre body b o eb short = rw eb (bytes_short pre body o short)

pub due_fits : (b : List ℕ) (at : ℕ) (d : Due) → length b ≤ 16777215 → Is (found_at b at) d → d.next < 4294967296
due_fits b at d l i = omega (arith, i.next, next_inside b at)

pub ahead_fits : (b : List ℕ) (at : ℕ) (a : Ahead) → length b ≤ 16777215 → Passes (found_at b at) a → a.next < 4294967296
ahead_fits b at a l p = omega (arith, p.next, next_inside b at)

-- ---- a literal by the notes

pub stands_early : (pre body : List ℕ) (o at : ℕ) → o ≡ 0 → LiteralThere (bytes_of (both pre body) o) at → LiteralThere pre at
stands_early pre body o at e h = rw e at h

pub stands_own : (pre body : List ℕ) (o at : ℕ) → o ≡ 1 → LiteralThere (bytes_of (both pre body) o) at → LiteralThere body at
stands_own pre body o at e h = rw e at h

module _ {d : Due} {t u : List ℕ} (pre body : List ℕ) (o at : ℕ) (g : Noting pre body t u) where
  pub due_early : {t' : List ℕ} → o ≡ 0 → Is (found_at pre at) d × Noted pre t' → Is (found_at (bytes_of (both pre body) o) at) d × Noting pre body t' u
  due_early e h = (rw e h.0, record { in_pre = h.1; in_body = g.in_body })

  pub due_own : {u' : List ℕ} → o ≡ 1 → Is (found_at body at) d × Noted body u' → Is (found_at (bytes_of (both pre body) o) at) d × Noting pre body t u'
  due_own e h = (rw e h.0, record { in_pre = g.in_pre; in_body = h.1 })

  -- where there are no bytes
  pub due_none : (o ≡ 0 → ⊥) → (o ≡ 1 → ⊥) → d ≡ record { literal = Plain 0; next = 0 } → Is (found_at (bytes_of (both pre body) o) at) d × Noting pre body t u
  unfolding found_at found_by nothing_at
  due_none f k e = (rw (e, ← (nothing_there pre body o f k), token_end [] at (omega arith)) (record { literal = refl; next = refl }), g)
