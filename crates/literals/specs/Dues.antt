-- What the reader of literals answers, against the definition. Assumes nothing.
use Rattle.std.specs.Prelude.{◌≡◌, ℕ, ◌≤◌, List, length, Ok, Option, Some, None}
use Rattle.machine.specs.declared.Literal.TheVariants.{Plain}
use Rattle.machine.specs.declared.Role.TheVariants.{Holds}
use Rattle.machine.specs.Limits.{most_open}
use Rattle.machine.specs.Skeleton.{role_of, solid, body_at}
use Rattle.machine.specs.Literal.{Found, found_at}
use Rattle.machine.specs.Step.{is_unmark0}
use Rattle.machine.specs.Readable.{IsLiteral}
use Rattle.literals.specs.declared.Ahead.{Ahead}
use Rattle.literals.specs.declared.Bare.{Bare}
use Rattle.literals.specs.declared.Due.{Due}

-- a literal stands at `at`: the bytes have been judged
abbrev pub LiteralThere : List ℕ → ℕ → Type 0
LiteralThere b at = IsLiteral b at (found_at b at)

-- the answer r is the literal f
pub record Is (f : Found) (r : Due) : Type 0 where
  pub literal : r.literal ≡ f.literal
  pub next : r.next ≡ f.next

-- the answer r is what skipping asks of the literal f
pub record Passes (f : Found) (r : Ahead) : Type 0 where
  pub next : r.next ≡ f.next
  pub unmarks : r.unmarks ≡ is_unmark0 f.literal

-- p is past the operator n, which ends at `next`, past the body that it holds, and past comments
pub record PastOperator (b : List ℕ) (n next p : ℕ) : Type 0 where
  pub holds : role_of n ≡ Holds → (end : ℕ) × (body_at most_open b next ≡ Ok end) × (p ≡ solid b end)
  pub holds_none : (role_of n ≡ Holds → ⊥) → p ≡ solid b next

-- the operator r stands at `at`
pub record BareThere (b : List ℕ) (at : ℕ) (r : Bare) : Type 0 where
  pub there : found_at b at ≡ record { literal = Plain r.number; next = r.next }
  pub inside : r.next ≤ length b

-- the same, if one is told
abbrev pub Tells : List ℕ → ℕ → Option Bare → Type 0
Tells b at (Some r) = BareThere b at r
Tells b at None = Unit
