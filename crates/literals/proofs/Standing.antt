-- A literal that stands at a place, known to be one: its token, and the body that it holds. In order: places past comments; the literal.
-- Assumes nothing.
use Rattle.std.specs.Prelude.{Ok}
use Prim.Native.Nat.{ℕ, zero, suc}
use mathlib.Core.Path.{◌≡◌, ◌∙◌}
use mathlib.Core.Bool.{false≢true}
use mathlib.Core.Logic.{◌⊎◌, inl, inr, ⊎_elim}
use mathlib.Core.List.{List}
use lib.Dec.{eqb}
use borrow.Author.Tests.{ne_eqb}
use Rattle.tokens.specs.declared.Read.TheVariants.{Operator}
use Rattle.tokens.specs.Token.{token_at}
use Rattle.passing.specs.Known.{Reads}
use Rattle.machine.specs.declared.Role.TheVariants.{Plain, Holds}
use Rattle.machine.specs.Limits.{most_open}
use Rattle.machine.specs.Skeleton.{one_of, role_of, solid, due, body_at}
use Rattle.machine.specs.Literal.{Found, holding_by, holding_at, operator_by, found_by, found_at}
use Rattle.machine.specs.Step.{is_unmark0}
use Rattle.machine.specs.Readable.{NoComment, IsLiteral, a_number, an_identifier, a_string, an_operator, a_holder}
use Rattle.machine.proofs.Comments.{Comments, none_at, one_at, never, comments_are}
use Rattle.spans.specs.Memo.{BodyEnds}
use Rattle.literals.specs.declared.Ahead.{Ahead}
use Rattle.literals.specs.Dues.{LiteralThere, Passes, PastOperator}
use Rattle.nesting.proofs.BodyTurns.{stands_at}

-- ---- places past comments

pub comments_none : (s : List ℕ) (at q : ℕ) → Comments s at q → NoComment (token_at s q)
comments_none s at q (none_at h) = h
comments_none s at q (one_at {next = next} h c) = comments_none s next q c

pub solid_again : (b : List ℕ) (n : ℕ) → solid b n ≡ solid b (solid b n)
solid_again b n = stands_at b (solid b n) (comments_none b n (solid b n) (comments_are b n))

body_solid : (k : ℕ) (b : List ℕ) (at : ℕ) → body_at k b (solid b at) ≡ body_at k b at
unfolding body_at due
body_solid zero b at = rw (← (solid_again b at))
body_solid (suc k) b at = rw (← (solid_again b at))

-- a body is due past comments as it is before
pub solid_body : (b : List ℕ) (at q : ℕ) → q ≡ solid b at → body_at most_open b q ≡ body_at most_open b at
solid_body b at q e = rw e (body_solid most_open b at)

pub ends_solid : (b : List ℕ) (at q : ℕ) → q ≡ solid b at → BodyEnds b at → BodyEnds b q
ends_solid b at q e h = (h.0, solid_body b at q e ∙ h.1)

-- ---- the literal

no_unmark : (n : ℕ) → role_of n ≡ Holds → n ≡ 192 → ⊥
unfolding role_of one_of
no_unmark n r z = let y : Plain ≡ Holds = rw z at r in false≢true (cc)

module _ {b : List ℕ} {at : ℕ} where
  pub stands_reads : (f : Found) → IsLiteral b at f → Reads (token_at b at)
  stands_reads f (a_number value next e) = rw e tt
  stands_reads f (an_identifier len next e) = rw e tt
  stands_reads f (a_string count next e) = rw e tt
  stands_reads f (an_operator n next e r) = rw e tt
  stands_reads f (a_holder n inner next e r h) = rw e tt

  pub stands_solid : (f : Found) → IsLiteral b at f → NoComment (token_at b at)
  stands_solid f (a_number value next e) = rw e tt
  stands_solid f (an_identifier len next e) = rw e tt
  stands_solid f (a_string count next e) = rw e tt
  stands_solid f (an_operator n next e r) = rw e tt
  stands_solid f (a_holder n inner next e r h) = rw e tt

  -- the body of an operator that holds one
  pub stands_ends : (f : Found) (n next : ℕ) → IsLiteral b at f → token_at b at ≡ Ok (Operator n next) → role_of n ≡ Holds → BodyEnds b next
  stands_ends f n next (a_number value x e) t r = never (cc)
  stands_ends f n next (an_identifier len x e) t r = never (cc)
  stands_ends f n next (a_string count x e) t r = never (cc)
  stands_ends f n next (an_operator m x e p) t r = let z : m ≡ n = cc in let y : role_of n ≡ Plain = rw z at p in never (cc)
  stands_ends f n next (a_holder m inner x e p h) t r = let z : inner ≡ next = cc in (x, rw z at h)

  -- an operator that stands there is a literal by itself, or holds a body
  stands_role : (f : Found) (n next : ℕ) → IsLiteral b at f → token_at b at ≡ Ok (Operator n next) → (role_of n ≡ Plain) ⊎ (role_of n ≡ Holds)
  stands_role f n next (a_number value x e) t = never (cc)
  stands_role f n next (an_identifier len x e) t = never (cc)
  stands_role f n next (a_string count x e) t = never (cc)
  stands_role f n next (an_operator m x e p) t = let z : m ≡ n = cc in inl (rw z at p)
  stands_role f n next (a_holder m inner x e p h) t = let z : m ≡ n = cc in inr (rw z at p)

  -- what skipping asks of it
  pub operator_passes : (n next : ℕ) (a : Ahead) → LiteralThere b at → token_at b at ≡ Ok (Operator n next) → PastOperator b n next a.next
      → a.unmarks ≡ eqb n 192 → Passes (found_at b at) a
  unfolding found_at found_by operator_by holding_at holding_by is_unmark0
  operator_passes n next a h e p u = ⊎_elim plain holds (stands_role _ n next h e)
    where
      plain : role_of n ≡ Plain → Passes (found_at b at) a
      plain r = rw (e, r) (record { next = p.holds_none (λ y. never (cc)); unmarks = u })

      holds : role_of n ≡ Holds → Passes (found_at b at) a
      holds r = let q = p.holds r in rw (e, r, q.1) (record { next = q.2; unmarks = u ∙ ne_eqb n 192 (no_unmark n r) })
