-- The constants of the Xerox encoding (000, 2.5; 01, Tokens). Assumes nothing.
use Rattle.std.specs.Prelude.{ℕ, Bool, true, false, ◌&&◌, List, [], ◌∷◌, eqb}

-- `Interpress/Xerox/3.0 `, the last a space
unfoldable pub header : List ℕ
header =
    73 ∷ 110 ∷ 116 ∷ 101 ∷ 114 ∷ 112 ∷ 114 ∷ 101 ∷ 115 ∷ 115 ∷ 47
    ∷ 88 ∷ 101 ∷ 114 ∷ 111 ∷ 120 ∷ 47 ∷ 51 ∷ 46 ∷ 48 ∷ 32 ∷ []

-- the bytes h stand at the beginning of s
unfoldable pub starts : List ℕ → List ℕ → Bool
starts [] s = true
starts (b ∷ h) [] = false
starts (b ∷ h) (c ∷ s) = eqb b c && starts h s

-- the longest master, and the longest written form
abbrev pub longest : ℕ
longest = 16777215

-- the bias of a short number
abbrev pub bias : ℕ
bias = 4000

-- the longest identifier
abbrev pub longest_name : ℕ
longest_name = 100

-- table 2.2: the sequence types that are read
abbrev pub string_type : ℕ
string_type = 1

abbrev pub integer_type : ℕ
integer_type = 2

abbrev pub rational_type : ℕ
rational_type = 4

abbrev pub identifier_type : ℕ
identifier_type = 5

abbrev pub comment_type : ℕ
comment_type = 6

abbrev pub continued_type : ℕ
continued_type = 7
