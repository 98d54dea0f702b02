-- Tokens of bytes that have been judged: for contracts of inner functions alone. Assumes nothing.
use Rattle.std.specs.Prelude.{ℕ, ◌≡◌, List, length, Result, Ok, Err}
use Rattle.tokens.specs.declared.Refused.{Refused}
use Rattle.tokens.specs.declared.Read.{Read}
use Rattle.tokens.specs.Joined.{whole, joined_at}
use Rattle.passing.specs.declared.Extent.{Extent}

-- it is a token and no refusal
abbrev pub Reads : Result Read Refused → Type 0
Reads (Ok token) = Unit
Reads (Err w) = ⊥

-- the sequence token at `at`, if it is not cut off, has so many bytes of data, and ends there
abbrev pub Extends : List ℕ → ℕ → Extent → Type 0
Extends s at x = (d : List ℕ) (next : ℕ) → joined_at s at ≡ whole d next → (x.len ≡ length d) × (x.next ≡ next)
