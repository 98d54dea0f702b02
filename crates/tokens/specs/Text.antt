-- The bytes of strings and identifiers (01, Tokens: "letters, digits, `-`, first a letter. Upper case reads as lower"; "A byte 255 is
-- refused"). In order: bytes; a rule for every byte; the identifier's rule; lower case. Assumes nothing.
use Rattle.std.specs.Prelude.{ℕ, ◌+◌, Bool, true, cond, ◌&&◌, ◌||◌, not, List, [], ◌∷◌, leb, eqb, length, get_or}
use Rattle.tokens.specs.declared.Rule.{Rule}
use Rattle.tokens.specs.declared.Rule.TheVariants.{Anything, Plain, Named, Lowered}
use Rattle.tokens.specs.Format.{longest_name}

-- low to high, both included
abbrev pub between : ℕ → ℕ → ℕ → Bool
between low high b = leb low b && leb b high

-- `A` to `Z`, `a` to `z`, `0` to `9` of ISO 646
abbrev pub is_upper : ℕ → Bool
is_upper b = between 65 90 b

abbrev pub is_lower : ℕ → Bool
is_lower b = between 97 122 b

abbrev pub is_digit : ℕ → Bool
is_digit b = between 48 57 b

abbrev pub is_letter : ℕ → Bool
is_letter b = is_upper b || is_lower b

-- a digit or `-`
abbrev pub is_mark : ℕ → Bool
is_mark b = is_digit b || eqb b 45

-- what a byte must be: anything; no 255; a letter, a digit or `-`; the same with no upper case
unfoldable pub obeys : Rule → ℕ → Bool
obeys Anything b = true
obeys Plain b = not (eqb b 255)
obeys Named b = is_letter b || is_mark b
obeys Lowered b = is_lower b || is_mark b

-- every byte obeys the rule
unfoldable pub every : Rule → List ℕ → Bool
every r [] = true
every r (b ∷ bs) = obeys r b && every r bs

-- an identifier whose bytes obey the rule r: 1 to 100 of them, the first a letter
unfoldable pub is_name : Rule → List ℕ → Bool
is_name r d = leb 1 (length d) && (leb (length d) longest_name && (is_letter (get_or d 0 0) && every r d))

-- upper case reads as lower
unfoldable pub lower_of : ℕ → ℕ
lower_of b = cond (is_upper b) (b + 32) b

unfoldable pub lowered : List ℕ → List ℕ
lowered [] = []
lowered (b ∷ bs) = lower_of b ∷ lowered bs
