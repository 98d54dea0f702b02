-- The literal at a place of a body's bytes, and the bytes that values point to (01, Outcomes and numbers: "a start counts from just after
-- that body's `{`"; R27). Of a body that the skeleton accepts every place where the machine reads holds a literal; where there is none,
-- the operator 0, which no master has, ends the body. Assumes nothing.
use Rattle.std.specs.Prelude.{Result, Ok, Err, ℕ, ◌+◌, ◌-◌, Bool, true, false, ◌&&◌, List, [], ◌∷◌, eqb, pos, length, get_or}
use Rattle.tokens.specs.declared.Refused.{Refused}
use Rattle.tokens.specs.declared.Read.{Read}
use Rattle.tokens.specs.declared.Read.TheVariants as read
use Rattle.tokens.specs.Text.{lowered}
use Rattle.tokens.specs.Joined.{data_of, joined_at}
use Rattle.tokens.specs.Token.{token_at}
use Rattle.machine.specs.declared.Role.{Role}
use Rattle.machine.specs.declared.Role.TheVariants as role
use Rattle.machine.specs.declared.Value.{Value}
use Rattle.machine.specs.declared.Value.TheVariants.{Number, Identifier, Vector, Operator}
use Rattle.machine.specs.declared.Literal.{Literal}
use Rattle.machine.specs.declared.Literal.TheVariants.{Figure, Name, Text, Plain, WithBody}
use Rattle.machine.specs.Limits.{most_open}
use Rattle.machine.specs.Skeleton.{role_of, solid, body_at}

-- the bytes of the bodies that the engine runs, by origin: 0 the preamble's, 1 the page's
abbrev pub Code : Type 0
Code = List (List ℕ)

abbrev pub bytes_of : Code → ℕ → List ℕ
bytes_of code origin = get_or code origin []

-- a literal, and where the next one stands, past comments
pub record Found : Type 0 where
  pub literal : Literal
  pub next : ℕ

abbrev pub found : List ℕ → Literal → ℕ → Found
found b x next = record { literal = x; next = solid b next }

-- no literal, to the end of the body
unfoldable pub nothing_at : List ℕ → Found
nothing_at b = record { literal = Plain 0; next = length b }

-- the body operator n with the body that stands from `next` on
unfoldable pub holding_by : List ℕ → ℕ → ℕ → Result ℕ Refused → Found
holding_by b n start (Ok next) = found b (WithBody n start (next - 2 - start)) next
holding_by b n start (Err w) = nothing_at b

unfoldable pub holding_at : List ℕ → ℕ → ℕ → Found
holding_at b n next = holding_by b n (solid b next + 2) (body_at most_open b next)

unfoldable pub operator_by : Role → List ℕ → ℕ → ℕ → Found
operator_by role.Plain b n next = found b (Plain n) next
operator_by role.Holds b n next = holding_at b n next
operator_by role.Closes b n next = nothing_at b
operator_by role.Barred b n next = nothing_at b

unfoldable pub found_by : List ℕ → ℕ → Result Read Refused → Found
found_by b at (Ok (read.Number value next)) = found b (Figure value) next
found_by b at (Ok (read.Identifier len next)) = found b (Name at len) next
found_by b at (Ok (read.String count next)) = found b (Text at) next
found_by b at (Ok (read.Operator n next)) = operator_by (role_of n) b n next
found_by b at (Ok (read.Comment next)) = nothing_at b
found_by b at (Err w) = nothing_at b

unfoldable pub found_at : List ℕ → ℕ → Found
found_at b at = found_by b at (token_at b at)

-- ---- what values point to

-- the elements of the string token at a place: "a vector with lower bound 0 whose elements are the bytes"
unfoldable pub numbers : List ℕ → List Value
numbers [] = []
numbers (n ∷ ns) = Number (record { num = pos n; den = 1 }) ∷ numbers ns

unfoldable pub letters_at : List ℕ → ℕ → List Value
letters_at b at = numbers (data_of (joined_at b at))

-- an identifier's text, in lower case; other values have none
unfoldable pub text_of : Code → Value → List ℕ
text_of code (Number a) = []
text_of code (Identifier origin start len) = lowered (data_of (joined_at (bytes_of code origin) start))
text_of code (Vector first lower count) = []
text_of code (Operator origin start len first) = []

unfoldable pub same_bytes : List ℕ → List ℕ → Bool
same_bytes [] [] = true
same_bytes [] (b ∷ bs) = false
same_bytes (a ∷ l) [] = false
same_bytes (a ∷ l) (b ∷ m) = eqb a b && same_bytes l m
