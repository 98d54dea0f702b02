-- Bodies that run to their end: literals from the first place on, each found as one, and so each body that a literal holds. The functions of
-- the engine may take it for granted of bytes that the check has taken (docs/DECISIONS.md, D77); no public call does. Assumes nothing.
use Rattle.std.specs.Prelude.{Result, Ok, Err, ℕ, ◌+◌, ◌-◌, ◌<◌, ◌≡◌, List, length}
use Rattle.tokens.specs.declared.Refused.{Refused}
use Rattle.numbers.specs.declared.Number as num
use Rattle.tokens.specs.declared.Read.{Read}
use Rattle.tokens.specs.declared.Read.TheVariants as read
use Rattle.tokens.specs.Token.{token_at}
use Rattle.machine.specs.declared.Role.TheVariants as role
use Rattle.machine.specs.declared.Literal.TheVariants.{Figure, Name, Text, Plain, WithBody}
use Rattle.machine.specs.Limits.{most_open}
use Rattle.machine.specs.Skeleton.{role_of, solid, body_at}
use Rattle.machine.specs.Literal.{Found, found, found_at}

-- a token that is no comment
abbrev pub NoComment : Result Read Refused → Type 0
NoComment (Ok (read.Number value next)) = Unit
NoComment (Ok (read.Identifier len next)) = Unit
NoComment (Ok (read.String count next)) = Unit
NoComment (Ok (read.Operator n next)) = Unit
NoComment (Ok (read.Comment next)) = ⊥
NoComment (Err w) = Unit

-- the token at the place is a number, an identifier, a string, an operator that is a literal by itself, or one that holds a body, whose
-- body is read; and this is the literal found
pub data IsLiteral (b : List ℕ) (at : ℕ) : Found → Type 0 where
  a_number : (value : num.Number) (next : ℕ) → token_at b at ≡ Ok (read.Number value next) → IsLiteral b at (found b (Figure value) next)
  an_identifier : (len next : ℕ) → token_at b at ≡ Ok (read.Identifier len next) → IsLiteral b at (found b (Name at len) next)
  a_string : (count next : ℕ) → token_at b at ≡ Ok (read.String count next) → IsLiteral b at (found b (Text at) next)
  an_operator : (n next : ℕ) → token_at b at ≡ Ok (read.Operator n next) → role_of n ≡ role.Plain → IsLiteral b at (found b (Plain n) next)
  a_holder : (n inner next : ℕ) → token_at b at ≡ Ok (read.Operator n inner) → role_of n ≡ role.Holds → body_at most_open b inner ≡ Ok next
      → IsLiteral b at (found b (WithBody n (solid b inner + 2) (next - 2 - (solid b inner + 2))) next)

-- from the place on, literals up to the end, past comments
pub data Readable (b : List ℕ) : ℕ → ℕ → Type 0 where
  at_its_end : {end : ℕ} → Readable b end end
  literal : {at end : ℕ} → at < end → IsLiteral b at (found_at b at) → ((n start len : ℕ) → (found_at b at).literal ≡ WithBody n start len → Readable b (solid b start) (start + len))
      → Readable b (found_at b at).next end → Readable b at end

-- the whole of a body's bytes
abbrev pub Whole : List ℕ → Type 0
Whole b = Readable b (solid b 0) (length b)
