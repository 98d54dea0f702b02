-- The text that an identifier points to, by its origin and its start alone (01, Outcomes and numbers). Assumes nothing.
use Rattle.std.specs.Prelude.{ℕ, Bool, List, [], ◌∷◌}
use Rattle.tokens.specs.Text.{lowered}
use Rattle.tokens.specs.Joined.{data_of, joined_at}
use Rattle.machine.specs.Literal.{Code, bytes_of, same_bytes}

-- the bodies that the engine runs: the preamble's, then the page's
abbrev pub both : List ℕ → List ℕ → Code
both pre body = pre ∷ body ∷ []

-- the data of the sequence token at a place of the body with that origin
abbrev pub data_at : Code → ℕ → ℕ → List ℕ
data_at code origin start = data_of (joined_at (bytes_of code origin) start)

-- two identifiers have one text, upper case read as lower
abbrev pub same_text : Code → ℕ → ℕ → ℕ → ℕ → Bool
same_text code origin start origin' start' = same_bytes (lowered (data_at code origin start)) (lowered (data_at code origin' start'))
