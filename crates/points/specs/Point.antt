-- The reading point (01, What the controller takes: "A reading point, the master's bytes together with the place reached, is handed
-- from token to token"). In order: the place after a token; the token with that place. Assumes nothing.
use Rattle.std.specs.Prelude.{ℕ, List, Result, Ok, Err}
use Rattle.tokens.specs.declared.Refused.{Refused}
use Rattle.tokens.specs.declared.Read.{Read}
use Rattle.points.specs.declared.Taken.{Taken}
use Rattle.tokens.specs.Token.{token_at}
use Rattle.tokens.specs.Passing.{after}

-- the place after the token t that was read at `at`; where none was read, `at`
abbrev pub next_of : ℕ → Result Read Refused → ℕ
next_of at (Ok token) = after token
next_of at (Err w) = at

-- the token at `at`, and the place after it
abbrev pub taken_at : List ℕ → ℕ → Taken
taken_at s at = let t = token_at s at in record { token = t; next = next_of at t }
