-- The token at a place of the input (000, 2.5.1 to 2.5.3; 01, Tokens). `Read` is the code's own enum. A refusal is judged in 01's
-- order: 2 for any token of a sequence that is cut off, then 3, 5, 4 for the whole. In order: numbers; the data of a sequence by its
-- type; the token by its first byte. Assumes nothing.
use Rattle.std.specs.Prelude.{Result, Ok, Err}
use Rattle.tokens.specs.Refusal.{refusal_at}
use Rattle.tokens.specs.declared.Refused.{Refused}
use Rattle.std.specs.Prelude.{ℕ, ◌+◌, ◌*◌, ◌/◌, ◌%◌, List, Bool, cond, ◌&&◌, ltb, leb, eqb, length, get_or, take, drop, ℤ, pos, ◌-ℤ◌}
use Rattle.numbers.specs.Fraction.{Answer}
use Rattle.numbers.specs.Fraction.{ratio_of}
use Rattle.tokens.specs.declared.Read.{Read}
use Rattle.tokens.specs.declared.Read.TheVariants.{Number, Identifier, String, Operator, Comment}
use Rattle.tokens.specs.declared.Refusal.TheVariants.{CutOff, TypeNotRead, BadData, NothingContinued}
use Rattle.tokens.specs.declared.Rule.TheVariants.{Plain, Named}
use Rattle.tokens.specs.Format.{bias, string_type, integer_type, rational_type, identifier_type, comment_type, continued_type}
use Rattle.tokens.specs.Bytes.{value_of, signed_of}
use Rattle.tokens.specs.Text.{every, is_name}
use Rattle.tokens.specs.Joined.{Joined, whole, cut_at, joined_at}

-- a number's token, or 4 where there is no such number
unfoldable pub number_read : ℕ → ℕ → Answer → Result Read Refused
number_read at next (Ok value) = Ok (Number value next)
number_read at next (Err why) = Err (refusal_at BadData at)

-- "1 to 4 bytes"
abbrev pub integer_size : ℕ → Bool
integer_size n = leb 1 n && leb n 4

-- "2, 4, 6 or 8 bytes"
abbrev pub rational_size : ℕ → Bool
rational_size n = eqb (n % 2) 0 && (leb 2 n && leb n 8)

-- the number that the data d of n bytes are in two's complement
abbrev pub integer_in : ℕ → List ℕ → ℤ
integer_in n d = signed_of n (value_of d)

-- "the first half is the numerator, the second the denominator, each signed": halves of h bytes
abbrev pub rational_in : ℕ → List ℕ → Answer
rational_in h d = ratio_of (integer_in h (take h d)) (integer_in h (drop h d))

-- the token t where its data obey the rules, else 4
abbrev pub ruled : ℕ → Bool → Result Read Refused → Result Read Refused
ruled at good t = cond good t (Err (refusal_at BadData at))

-- the data d of a sequence of type k that begins at `at`
unfoldable pub judged : ℕ → ℕ → List ℕ → ℕ → Result Read Refused
judged k at d next =
    cond (eqb k string_type) (ruled at (every Plain d) (Ok (String (length d) next)))
    (cond (eqb k integer_type) (ruled at (integer_size (length d)) (number_read at next (ratio_of (integer_in (length d) d) (pos 1))))
    (cond (eqb k rational_type) (ruled at (rational_size (length d)) (number_read at next (rational_in (length d / 2) d)))
    (cond (eqb k identifier_type) (ruled at (is_name Named d) (Ok (Identifier (length d) next)))
    (cond (eqb k comment_type) (Ok (Comment next))
    (cond (eqb k continued_type) (Err (refusal_at NothingContinued at))
    (Err (refusal_at TypeNotRead at)))))))

unfoldable pub sequence : ℕ → ℕ → Joined → Result Read Refused
sequence k at (whole d next) = judged k at d next
sequence k at (cut_at place) = Err (refusal_at CutOff place)

-- a token of two bytes, which is cut off where the input has only one of them
abbrev pub pair : List ℕ → ℕ → Result Read Refused → Result Read Refused
pair s at t = cond (ltb (at + 1) (length s)) t (Err (refusal_at CutOff at))

-- by the top bits of the first byte b (e is the next): 0 a short number, 100 a short operator, 101 a long operator, 11 a sequence
unfoldable pub token_of : List ℕ → ℕ → ℕ → ℕ → Result Read Refused
token_of s at b e =
    let seq = sequence (b % 32) at (joined_at s at) in
    cond (ltb b 128) (pair s at (Ok (Number (record { num = pos (b % 128 * 256 + e) -ℤ pos bias; den = 1 }) (at + 2))))
    (cond (ltb b 160) (Ok (Operator (b % 32) (at + 1)))
    (cond (ltb b 192) (pair s at (Ok (Operator (b % 32 * 256 + e) (at + 2))))
    seq))

-- the token at `at`; "where one is due" and the input has ended: 2 there
unfoldable pub token_at : List ℕ → ℕ → Result Read Refused
token_at s at = let t = token_of s at (get_or s at 0) (get_or s (at + 1) 0) in cond (ltb at (length s)) t (Err (refusal_at CutOff at))
