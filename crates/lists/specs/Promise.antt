-- What `write` and `read_back` promise: the answer, and every byte of every lent table, refused input too (01, Outcomes and numbers: "In
-- writing, 15 (first such token) before 16. Reading back judges 11 last"; "A refusal leaves every lent table as found"; "Writing and
-- reading back leave the rest of each table untouched"). In order: writing; the tables that a list fills; reading back. Assumes nothing.
use Rattle.std.specs.Prelude.{Ok, Err}
use Rattle.tokens.specs.Refusal.{refusal_at}
use Rattle.std.specs.Prelude.{◌≡◌, ℕ, ◌+◌, Bool, cond, ◌&&◌, List, [], ◌∷◌, ◌++◌, length, drop, nat_le}
use Rattle.std.specs.Int.{w32}
use Rattle.std.proofs.Common.{of_z}
use Rattle.table.specs.Words.{word_bytes}
use Rattle.tokens.specs.Refusal.{Outcome}
use Rattle.tokens.specs.declared.Refusal.TheVariants.{TableTooShort, NotWritable, NoRoom}
use Rattle.tokens.specs.Format.{longest}
use Rattle.items.specs.Tokens.{Token, number, identifier, string, operator}
use Rattle.lists.specs.Written.{written_of}
use Rattle.items.specs.Listing.{Listed, all, wrong, listed}
use Rattle.lists.specs.Reading.{Got, got, refused, read_list}

-- a table whose first bytes are now b, the rest as found
unfoldable pub over : List ℕ → List ℕ → List ℕ
over b table = b ++ drop (length b) table

-- b is not longer than n bytes, nor than a master
abbrev pub room_for : List ℕ → ℕ → Bool
room_for b n = nat_le (length b) n && nat_le (length b) longest

-- ---- writing into a buffer of n bytes

unfoldable pub write_answer : Listed → ℕ → Outcome
write_answer (all ts) n = cond (room_for (written_of ts) n) (Ok (length (written_of ts))) (Err (refusal_at NoRoom 0))
write_answer (wrong i) n = Err (refusal_at NotWritable i)

unfoldable pub write_leaves : Listed → List ℕ → List ℕ
write_leaves (all ts) out = cond (room_for (written_of ts) (length out)) (over (written_of ts) out) out
write_leaves (wrong i) out = out

-- `write` of the list l with the text table x: it answers r, and the buffer out is out' afterwards
pub record Writes (l x out out' : List ℕ) (r : Outcome) : Type 0 where
  pub answer : r ≡ write_answer (listed l x) (length out)
  pub leaves : out' ≡ write_leaves (listed l x) out

-- ---- the tables of a list: four words a token, texts end to end

unfoldable pub text_of : Token → List ℕ
text_of (number a) = []
text_of (identifier d) = d
text_of (string d) = d
text_of (operator n) = []

unfoldable pub texts_of : List Token → List ℕ
texts_of [] = []
texts_of (t ∷ ts) = text_of t ++ texts_of ts

abbrev pub four_words : ℕ → ℕ → ℕ → List ℕ
four_words k a b = word_bytes k ++ (word_bytes a ++ (word_bytes b ++ word_bytes 0))

-- a token whose text starts at o
unfoldable pub words_of : ℕ → Token → List ℕ
words_of o (number a) = four_words 1 (of_z w32 a.num) a.den
words_of o (identifier d) = four_words 2 o (length d)
words_of o (string d) = four_words 3 o (length d)
words_of o (operator n) = four_words 4 n 0

-- texts from o on
unfoldable pub list_of : ℕ → List Token → List ℕ
list_of o [] = []
list_of o (t ∷ ts) = words_of o t ++ list_of (o + length (text_of t)) ts

-- ---- reading back into tables of n and m bytes

abbrev pub holds : List Token → ℕ → ℕ → Bool
holds ts n m = nat_le (length (list_of 0 ts)) n && nat_le (length (texts_of ts)) m

unfoldable pub read_answer : Got → ℕ → ℕ → Outcome
read_answer (got ts) n m = cond (holds ts n m) (Ok (length ts)) (Err (refusal_at TableTooShort 0))
read_answer (refused refusal place) n m = Err (refusal_at refusal place)

unfoldable pub list_leaves : Got → List ℕ → ℕ → List ℕ
list_leaves (got ts) list m = cond (holds ts (length list) m) (over (list_of 0 ts) list) list
list_leaves (refused refusal place) list m = list

unfoldable pub text_leaves : Got → ℕ → List ℕ → List ℕ
text_leaves (got ts) n text = cond (holds ts n (length text)) (over (texts_of ts) text) text
text_leaves (refused refusal place) n text = text

-- `read_back` of the bytes s: it answers r, and the tables are list' and text' afterwards
pub record ReadsBack (s list list' text text' : List ℕ) (r : Outcome) : Type 0 where
  pub answer : r ≡ read_answer (read_list s) (length list) (length text)
  pub list_left : list' ≡ list_leaves (read_list s) list (length text)
  pub text_left : text' ≡ text_leaves (read_list s) (length list) text
