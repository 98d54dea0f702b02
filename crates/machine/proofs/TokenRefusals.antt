-- A token that is not read is refused by one of the refusals 2 to 5, so by an early one. Assumes nothing.
use Rattle.std.specs.Prelude.{Result, Ok, Err}
use Rattle.tokens.specs.Refusal.{refusal_at, number_of}
use Rattle.tokens.specs.declared.Refused.{Refused}
use Prim.Native.Nat.{ℕ, ◌<◌}
use native.Mathlib.Omega.{arith}
use mathlib.Core.List.{List}
use Rattle.numbers.specs.declared.Number as N
use Rattle.tokens.specs.declared.Read.{Read}
use Rattle.tokens.specs.declared.Read.TheVariants.{Number, Identifier, String, Operator, Comment}
use Rattle.tokens.specs.declared.Refusal.{Refusal}
use Rattle.tokens.specs.Token.{token_at}
use Rattle.tokens.proofs.Told.{Tells}
use Rattle.tokens.proofs.Theorems.{token_tells_all}

-- a refusal that the skeleton may meet
abbrev pub Early : Refusal → Type 0
Early w = number_of w < 10

-- a token, or a refusal that is early
pub data ReadEarly : Result Read Refused → Type 0 where
  number : {value : N.Number} {next : ℕ} → ReadEarly (Ok (Number value next))
  identifier : {len next : ℕ} → ReadEarly (Ok (Identifier len next))
  string : {count next : ℕ} → ReadEarly (Ok (String count next))
  operator : {n next : ℕ} → ReadEarly (Ok (Operator n next))
  comment : {next : ℕ} → ReadEarly (Ok (Comment next))
  unread : (w : Refusal) {p : ℕ} → Early w → ReadEarly (Err (refusal_at w p))

early_of : (s : List ℕ) (at : ℕ) (t : Result Read Refused) → Tells s at t → ReadEarly t
early_of s at (Ok (Number value next)) h = number
early_of s at (Ok (Identifier len next)) h = identifier
early_of s at (Ok (String count next)) h = string
early_of s at (Ok (Operator n next)) h = operator
early_of s at (Ok (Comment next)) h = comment
early_of s at (Err w) h = unread w.refusal (omega (arith, h.0))

pub token_early : (s : List ℕ) (at : ℕ) → ReadEarly (token_at s at)
token_early s at = early_of s at (token_at s at) (token_tells_all s at)
