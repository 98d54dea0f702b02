-- A judged token: for contracts of inner functions alone. Assumes nothing.
use Rattle.std.specs.Prelude.{Option, Some, None}
use Rattle.std.specs.Prelude.{ℕ, ◌+◌, ◌<◌, ◌≤◌, ◌≡◌, Bool, true, false, List, length}
use Rattle.std.proofs.Math.Seq.{slice}
use Rattle.std.specs.Int.{w32}
use Rattle.std.proofs.Common.{to_z}
use Rattle.items.specs.declared.Item.{Item}
use Rattle.items.specs.declared.Item.TheVariants.{Number, Identifier, String, Operator}
use Rattle.items.specs.Tokens.{Token, number, identifier, string, operator}
use Rattle.items.specs.Listing.{Entry, writes, bad}

-- the number of the words a and b
abbrev pub number_in : ℕ → ℕ → Token
number_in a b = number (record { num = to_z w32 a; den = b })

-- a text: an identifier where `named`, else a string
unfoldable pub text_token : Bool → List ℕ → Token
text_token true d = identifier d
text_token false d = string d

-- the entry that an item is, where x is the text table
unfoldable pub entry_is : List ℕ → Option Item → Entry
entry_is x (Some (Number a b)) = writes (number_in a b)
entry_is x (Some (Identifier s n)) = writes (identifier (slice s (s + n) x))
entry_is x (Some (String s n)) = writes (string (slice s (s + n) x))
entry_is x (Some (Operator n)) = writes (operator n)
entry_is x None = bad

-- n bytes from s on lie in the text table, and n is a length that a word can say
abbrev pub GoodText : List ℕ → ℕ → ℕ → Type 0
GoodText x s n = (s + n ≤ length x) × (n < 2147483648)

-- what an item satisfies besides
abbrev pub GoodItem : List ℕ → Option Item → Type 0
GoodItem x (Some (Number a b)) = Unit
GoodItem x (Some (Identifier s n)) = GoodText x s n
GoodItem x (Some (String s n)) = GoodText x s n
GoodItem x (Some (Operator n)) = n < 8192
GoodItem x None = Unit

-- the item r is the entry e
pub record Judged (x : List ℕ) (e : Entry) (r : Option Item) : Type 0 where
  pub is : entry_is x r ≡ e
  pub good : GoodItem x r
