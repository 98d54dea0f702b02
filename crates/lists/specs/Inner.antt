-- For the contracts of the writer's inner functions. In order: a length; bytes that are put; the two passes. Assumes nothing.
use Rattle.std.specs.Prelude.{Result, Ok, Err}
use Rattle.tokens.specs.Refusal.{refusal_at}
use Rattle.tokens.specs.declared.Refused.{Refused}
use Rattle.tokens.specs.declared.Refusal.TheVariants.{NotWritable}
use Rattle.std.specs.Prelude.{◌≡◌, ℕ, ◌+◌, ◌<◌, ◌≤◌, cond, List, [], ◌∷◌, length, ℤ, nat_le}
use Rattle.std.proofs.lemmas.List.Edits.{sets}
use Rattle.tokens.specs.Format.{longest, integer_type}
use Rattle.items.specs.declared.Item.{Item}
use Rattle.items.specs.declared.Item.TheVariants.{Number, Identifier, String, Operator}
use Rattle.items.specs.Tokens.{Token}
use Rattle.lists.specs.Written.{bytes_of, bytes_in, integer_bytes, sequence_bytes, token_bytes, written_of}
use Rattle.items.specs.Listing.{Entry, writes, bad, Listed, all, wrong}

-- a length that a word can say, where the item has one
abbrev pub Small : Item → Type 0
Small (Number a b) = Unit
Small (Identifier s n) = n < 2147483648
Small (String s n) = n < 2147483648
Small (Operator n) = Unit

-- ---- bytes that are put

-- the table has room for the bytes b at o
abbrev pub Room : List ℕ → ℕ → List ℕ → Type 0
Room table o b = o + length b ≤ length table

-- the bytes b are put at o, and r is the place after them
pub record Put (table table' : List ℕ) (o : ℕ) (b : List ℕ) (r : ℕ) : Type 0 where
  pub next : r ≡ o + length b
  pub stored : table' ≡ sets table o b

-- type k and length n of a sequence
unfoldable pub head_bytes : ℕ → ℕ → List ℕ
head_bytes k n = cond (nat_le n 255) ((192 + k) ∷ n ∷ []) ((224 + k) ∷ bytes_of 3 n)

-- a whole number that has no short form
abbrev pub integer_sequence : ℤ → List ℕ
integer_sequence z = sequence_bytes integer_type (integer_bytes (bytes_in z) z)

-- the tokens and the bytes of an entry: none of one that is not writable
unfoldable pub entry_tokens : Entry → List Token
entry_tokens (writes t) = t ∷ []
entry_tokens bad = []

unfoldable pub entry_bytes : Entry → List ℕ
entry_bytes (writes t) = token_bytes t
entry_bytes bad = []

-- ---- the two passes

-- a length, counted up to one more than the longest
unfoldable pub capped : ℕ → ℕ
capped n = cond (nat_le n (longest + 1)) n (longest + 1)

unfoldable pub measured_of : Listed → Result ℕ Refused
measured_of (all ts) = Ok (capped (length (written_of ts)))
measured_of (wrong i) = Err (refusal_at NotWritable i)

-- every token can be written, and their written form fits n bytes
abbrev pub Fits : Listed → ℕ → Type 0
Fits (all ts) n = length (written_of ts) ≤ n
Fits (wrong i) n = ⊥

unfoldable pub tokens_in : Listed → List Token
tokens_in (all ts) = ts
tokens_in (wrong i) = []
