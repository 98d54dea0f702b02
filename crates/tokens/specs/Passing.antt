-- A token told by its form, and a token passed over: for the contracts of forms.rt and passing.rt. Assumes nothing.
use Rattle.std.specs.Prelude.{ℕ, ◌<◌, ◌≤◌, ◌≡◌, List, length, get_or, pos, ◌-ℤ◌, Result, Ok, Err, Option, Some, None}
use Rattle.numbers.specs.Fraction.{Answer}
use Rattle.numbers.specs.declared.NoNumber.TheVariants.{TooLarge, ByZero}
use Rattle.tokens.specs.declared.Read.{Read}
use Rattle.tokens.specs.declared.Read.TheVariants as read
use Rattle.tokens.specs.declared.Form.{Form}
use Rattle.tokens.specs.declared.Form.TheVariants.{Number, Operator, Sequence}
use Rattle.tokens.specs.declared.Refusal.TheVariants.{CutOff}
use Rattle.tokens.specs.declared.Refused.{Refused}
use Rattle.tokens.specs.Refusal.{refusal_at}
use Rattle.tokens.specs.Format.{bias}
use Rattle.tokens.specs.Token.{token_at}

-- what the form of the token at `at` tells of it
abbrev pub Shows : List ℕ → ℕ → Form → Type 0
Shows s at (Number raw next) = token_at s at ≡ Ok (read.Number (record { num = pos raw -ℤ pos bias; den = 1 }) next)
Shows s at (Operator n next) = token_at s at ≡ Ok (read.Operator n next)
Shows s at Sequence = (at < length s) × (192 ≤ get_or s at 0)

-- the same where the first bytes tell; else the token is cut off
abbrev pub ShowsIfAny : List ℕ → ℕ → Option Form → Type 0
ShowsIfAny s at (Some f) = Shows s at f
ShowsIfAny s at None = token_at s at ≡ Err (refusal_at CutOff at)

-- the place after a token
abbrev pub after : Read → ℕ
after (read.Number value next) = next
after (read.Identifier len next) = next
after (read.String count next) = next
after (read.Operator n next) = next
after (read.Comment next) = next

-- a token passed over
unfoldable pub pass_of : Result Read Refused → Result ℕ Refused
pass_of (Ok token) = Ok (after token)
pass_of (Err w) = Err w

-- there is such a number
abbrev pub Answered : Answer → Type 0
Answered (Ok value) = Unit
Answered (Err TooLarge) = ⊥
Answered (Err ByZero) = ⊥
