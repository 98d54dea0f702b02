-- The tokens that a token table and a text table hold (01, Tokens: "a token in a list is four words: 1 number: numerator, denominator, 0;
-- 2 identifier: start, length, 0; 3 string: start, length, 0; 4 operator: number, 0, 0. Starts point into the text table"; R11). The
-- table's length is any number of bytes; an incomplete last token is not writable. Assumes nothing.
use Rattle.std.specs.Prelude.{ℕ, zero, suc, ◌+◌, ◌/◌, Bool, cond, ◌&&◌, List, [], ◌∷◌, ◌++◌, ltb, leb, eqb, length}
use Rattle.std.proofs.Math.Seq.{slice}
use Rattle.std.specs.Int.{w32}
use Rattle.std.proofs.Common.{to_z}
use Rattle.table.specs.Words.{word_at}
use Rattle.items.specs.Tokens.{Token, number, identifier, string, operator, writable}

-- what four words are: a token, or nothing that can be written
pub data Entry : Type 0 where
  writes : Token → Entry
  bad : Entry

-- the token t, where its words are as they should be and it can be written
unfoldable pub entry : Bool → Token → Entry
entry right t = cond (right && writable t) (writes t) bad

-- n bytes from a on lie inside the text table x; a start or a length that is negative as a word does not
unfoldable pub in_table : List ℕ → ℕ → ℕ → Bool
in_table x a n = ltb a 2147483648 && (ltb n 2147483648 && leb (a + n) (length x))

-- the words k, a, b, c, where x is the text table; a numerator is signed
unfoldable pub entry_of : List ℕ → ℕ → ℕ → ℕ → ℕ → Entry
entry_of x k a b c =
    cond (eqb k 1) (entry (eqb c 0) (number (record { num = to_z w32 a; den = b })))
    (cond (eqb k 2) (entry (eqb c 0 && in_table x a b) (identifier (slice a (a + b) x)))
    (cond (eqb k 3) (entry (eqb c 0 && in_table x a b) (string (slice a (a + b) x)))
    (cond (eqb k 4) (entry (eqb b 0 && eqb c 0) (operator a))
    bad)))

-- what stands at byte `at` of the list l
unfoldable pub entry_at : List ℕ → List ℕ → ℕ → Entry
entry_at l x at = cond (leb (at + 16) (length l)) (entry_of x (word_at l at) (word_at l (at + 4)) (word_at l (at + 8)) (word_at l (at + 12))) bad

-- all tokens, or the index of the first that is not writable
pub data Listed : Type 0 where
  all : List Token → Listed
  wrong : ℕ → Listed

unfoldable pub on_entry : ℕ → List Token → Entry → (List Token → Listed) → Listed
on_entry at ts (writes t) more = more (ts ++ (t ∷ []))
on_entry at ts bad more = wrong (at / 16)

-- ts, and the tokens from byte `at` of the list on, at most k of them
unfoldable pub listed_from : ℕ → List ℕ → List ℕ → ℕ → List Token → Listed
listed_from zero l x at ts = all ts
listed_from (suc k) l x at ts = let more = on_entry at ts (entry_at l x at) (listed_from k l x (at + 16)) in cond (ltb at (length l)) more (all ts)

unfoldable pub listed : List ℕ → List ℕ → Listed
listed l x = listed_from (length l) l x 0 []
