-- Where the bodies of a master stand, as it is told to run and reprint: for contracts of inner functions alone. Assumes nothing.
use Rattle.std.specs.Prelude.{ℕ, ◌+◌, ◌-◌, ◌*◌, ◌<◌, ◌≤◌, ◌≡◌, List, [], length, get_or, set}
use Rattle.std.proofs.Math.Seq.{slice}
use Rattle.tokens.specs.Refusal.{Outcome}
use Rattle.machine.specs.Limits.{most_pages}
use Rattle.machine.specs.Skeleton.{Span, Skeleton, sound}
use Rattle.machine.specs.Page.{bodies_of}
use Rattle.machine.specs.Promise.{pages_in}

-- the bytes b stand in s from a on up to e
pub record Stands (s b : List ℕ) (a e : ℕ) : Type 0 where
  pub ordered : a ≤ e
  pub inside : e ≤ length s
  pub is : slice a e s ≡ b

-- a table with two places for each body, the preamble's first
pub record Placed (s t : List ℕ) (bodies : List (List ℕ)) : Type 0 where
  pub some : 1 ≤ length bodies
  pub few : length bodies ≤ most_pages + 1
  pub each : (n : ℕ) → n < length bodies → Stands s (get_or bodies n []) (get_or t (2 * n) 0) (get_or t (2 * n + 1) 0)

-- the body n is the one from its `{` at `at` to `next`, past its `}`
unfoldable pub noted : List ℕ → ℕ → ℕ → ℕ → List ℕ
noted t n at next = set (set t (2 * n) (at + 2)) (2 * n + 1) (next - 2)

-- the answer by what was read, and where its bodies stand
pub record Surveyed (s t : List ℕ) (x : Skeleton) (r : Outcome) : Type 0 where
  pub answer : r ≡ pages_in x
  pub placed : (spans : List Span) → x ≡ sound spans → Placed s t (bodies_of s spans)
