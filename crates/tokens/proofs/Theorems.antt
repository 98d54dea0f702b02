-- What a reader of the token layer may quote, and all that the layers above may use beside the definitions. In order: the reader's one
-- answer; what a token says of itself; the proved bench cases. Work: Told.antt, Ends.antt. Assumes nothing.
use Rattle.std.specs.Prelude.{Result, Err}
use Rattle.tokens.specs.Refusal.{refusal_at}
use Rattle.tokens.specs.declared.Refused.{Refused}
use mathlib.Core.Path.{◌≡◌, refl, sym, ◌∙◌}
use mathlib.Core.List.{List}
use Prim.Native.Nat.{ℕ, ◌%◌, ◌<◌, ◌≤◌}
use lib.ListN.{length, get_or}
use borrow.Author.Tests.{le-ltb}
use Rattle.numbers.specs.Each.{Each, ◌&◌}
use Rattle.numbers.specs.Gcd.{gcd_turns, gcd_of}
use Rattle.numbers.specs.Whole.{signed_by}
use Rattle.numbers.specs.Fraction.{limited, ratio_of}
use Rattle.tokens.specs.declared.Read.{Read}
use Rattle.tokens.specs.declared.Refusal.{Refusal}
use Rattle.tokens.specs.declared.Refusal.TheVariants.{CutOff}
use Rattle.tokens.specs.Refusal.{number_of}
use Rattle.tokens.specs.Bytes.{value_after, signed_of}
use Rattle.tokens.specs.Text.{obeys, every, is_name}
use Rattle.tokens.specs.Joined.{within, piece_at, on_piece, joined_from, joined_at}
use Rattle.tokens.specs.Token.{number_read, judged, sequence, token_of, token_at}
use Rattle.tokens.specs.Cases.{Case, cases}
use Rattle.table.proofs.WordLists.{Bytes}
use Rattle.tokens.proofs.Told.{Told, Tells, token_told, token_tells}
use Rattle.tokens.proofs.OnePiece.{sequence_is}
use Rattle.tokens.proofs.Numbers.{same_number}

-- THEOREM (demand 1). Two refusals of one number are one refusal.
pub numbers_one : (a b : Refusal) → number_of a ≡ number_of b → a ≡ b
numbers_one a b e = same_number a b e

-- THEOREM (demand 1). No second answer satisfies the promise of `read_token`.
pub read_token_one : (s : List ℕ) (at : ℕ) {r₁ r₂ : Result Read Refused} → r₁ ≡ token_at s at → r₂ ≡ token_at s at → r₁ ≡ r₂
read_token_one s at e f = e ∙ sym f

-- THEOREM (for the layers above). A token that is read starts inside the input and ends later inside it; a number is inside the limits
-- and in lowest terms, a text is the joined data and obeys its rule, an operator is below 8192; a refusal lies from `at` to the end.
pub token_says : (s : List ℕ) (at : ℕ) → Bytes s → at ≤ length s → Told s at (token_at s at)
token_says s at f h = token_told s at f h

-- THEOREM (for the layers above). Of any bytes: the same, with what asks that elements are bytes behind that; a refusal is one of 2 to 5.
pub token_tells_all : (s : List ℕ) (at : ℕ) → Tells s at (token_at s at)
token_tells_all s at = token_tells s at

-- THEOREM (for the layers above). At the end of the input there is no token.
pub token_end : (s : List ℕ) (at : ℕ) → length s ≤ at → token_at s at ≡ Err (refusal_at CutOff at)
unfolding token_at
token_end s at h = rw (le-ltb at (length s) h)

-- THEOREM (for the layers above). A first byte from 192 on begins a sequence.
pub token_sequence : (s : List ℕ) (at : ℕ) → at < length s → 192 ≤ get_or s at 0 → token_at s at ≡ sequence (get_or s at 0 % 32) at (joined_at s at)
token_sequence s at h k = sequence_is s at h k

-- THEOREM (demand 2). Every P case of 01 on tokens, and its neighbours, by computation.
pub cases_hold : Each (λ (c : Case). token_at c.bytes 0 ≡ c.token) cases
unfolding cases token_at token_of sequence judged number_read every obeys is_name joined_at joined_from on_piece piece_at within value_after signed_of ratio_of limited signed_by gcd_of gcd_turns
cases_hold =
    refl & refl & refl & refl & refl & refl & refl & refl & refl & refl
    & refl & refl & refl & refl & refl & refl & refl & refl & refl & refl
    & refl & refl & refl & refl & refl & refl & refl & tt
