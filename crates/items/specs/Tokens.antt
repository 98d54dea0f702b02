-- Tokens as such: what a list is a list of, and which tokens can be written (01, Tokens: "Not writable: .."). Assumes nothing.
use Rattle.std.specs.Prelude.{ℕ, Bool, true, ◌&&◌, List, [], ◌∷◌, ltb}
use Rattle.numbers.specs.declared.Number.{Number}
use Rattle.numbers.specs.Fraction.{is_number}
use Rattle.tokens.specs.declared.Rule.TheVariants.{Plain, Lowered}
use Rattle.tokens.specs.Text.{every, is_name}

-- an identifier and a string are their bytes; an operator is its number
pub data Token : Type 0 where
  number : Number → Token
  identifier : List ℕ → Token
  string : List ℕ → Token
  operator : ℕ → Token

-- a reduced fraction inside the limits; an identifier by its rule, in lower case; a string without 255; operators 0 to 8191
unfoldable pub writable : Token → Bool
writable (number a) = is_number a
writable (identifier d) = is_name Lowered d
writable (string d) = every Plain d
writable (operator n) = ltb n 8192

unfoldable pub all_writable : List Token → Bool
all_writable [] = true
all_writable (t ∷ ts) = writable t && all_writable ts
