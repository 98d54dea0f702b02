-- Where bodies end, noted for who asks again: for contracts of inner functions alone. In order: the notes; a body that has been judged. Assumes nothing.
use Rattle.std.specs.Prelude.{ℕ, ◌+◌, ◌*◌, ◌%◌, ◌<◌, ◌≤◌, ◌≡◌, List, length, get_or, set, Ok, Option, Some, None}
use Rattle.machine.specs.Limits.{most_open}
use Rattle.machine.specs.Skeleton.{body_at}

-- ---- the notes

-- a table of 64 notes on the bytes s, two words each: the place where a body is due, 0 for none, and where it ends
pub record Noted (s t : List ℕ) : Type 0 where
  pub room : 128 ≤ length t
  pub each : (i : ℕ) → i < 64 → (get_or t (2 * i) 0 ≡ 0 → ⊥) → body_at most_open s (get_or t (2 * i) 0) ≡ Ok (get_or t (2 * i + 1) 0)

-- the note that the body due at `at` ends at `end`, in the place of another
unfoldable pub with_note : List ℕ → ℕ → ℕ → List ℕ
with_note t at end = set (set t (2 * (at % 64)) at) (2 * (at % 64) + 1) end

-- there is a note that the body due at `at` ends at `end`
pub record Seen (t : List ℕ) (at end : ℕ) : Type 0 where
  pub some : at ≡ 0 → ⊥
  pub begins : get_or t (2 * (at % 64)) 0 ≡ at
  pub ends : get_or t (2 * (at % 64) + 1) 0 ≡ end

-- what the notes answer, if they have any on the body due at `at`
abbrev pub SeenIfAny : List ℕ → ℕ → Option ℕ → Type 0
SeenIfAny t at (Some end) = Seen t at end
SeenIfAny t at None = Unit

-- ---- a body that has been judged

-- the body due at `at` is read to its end
abbrev pub BodyEnds : List ℕ → ℕ → Type 0
BodyEnds s at = (end : ℕ) × (body_at most_open s at ≡ Ok end)
