-- What a token that is read says of itself: where it ends, and what stands in its constructor; and where a refusal's place lies.
-- In order: the claims; a sequence by its type; the token by its first byte. Assumes nothing.
use Rattle.std.specs.Prelude.{Result, Ok, Err}
use Rattle.tokens.specs.Refusal.{refusal_at}
use Rattle.tokens.specs.declared.Refused.{Refused}
use mathlib.Core.Path.{◌≡◌, refl}
use mathlib.Core.Bool.{Bool, true}
use mathlib.Core.List.{List}
use Prim.Native.Nat.{ℕ, ◌+◌, ◌*◌, ◌%◌, ◌<◌, ◌≤◌}
use native.Mathlib.Nat.{mod-lt}
use native.Mathlib.Omega.{arith}
use lib.Dec.{ltb, eqb, lit<, lit≤}
use lib.ListN.{length, get_or}
use lib.IntN.{ℤ, pos, nat_abs, ◌-ℤ◌}
use borrow.Author.Tests.{ltb-true, le-leb}
use Rattle.numbers.specs.Fraction.{Answer}
use Rattle.numbers.specs.declared.NoNumber.TheVariants.{TooLarge, ByZero}
use Rattle.numbers.specs.Gcd.{gcd_of, gcd_turns}
use Rattle.numbers.specs.Fraction.{ratio_of, is_fraction, is_number}
use Rattle.numbers.proofs.Theorems.{number_ratio}
use Rattle.tokens.specs.declared.Read.{Read}
use Rattle.tokens.specs.declared.Read.TheVariants.{Number, Identifier, String, Operator, Comment}
use Rattle.tokens.specs.declared.Refusal.TheVariants.{CutOff}
use Rattle.tokens.specs.declared.Rule.TheVariants.{Plain, Named}
use Rattle.tokens.specs.Refusal.{number_of}
use Rattle.tokens.specs.Text.{every, is_name}
use Rattle.tokens.specs.Joined.{Joined, whole, cut_at, joined_at}
use Rattle.tokens.specs.Token.{number_read, integer_size, integer_in, rational_size, judged, sequence, pair, token_of, token_at}
use Rattle.numbers.proofs.Cond.{either}
use Rattle.table.proofs.WordLists.{Bytes}
use Rattle.tokens.proofs.Signs.{abs_diff_le}
use Rattle.tokens.proofs.Ends.{Ends, joined_ends}

-- a token from `at` to `next` inside n bytes
abbrev pub Spans : ℕ → ℕ → ℕ → Type 0
Spans n at next = (at < next) × (next ≤ n)

-- a text of len bytes: the joined data are that long, obey their rule, and the token is longer
pub record Text (s : List ℕ) (at len next : ℕ) (rule : List ℕ → Bool) : Type 0 where
  pub data_are : List ℕ
  pub joined : joined_at s at ≡ whole data_are next
  pub counted : len ≡ length data_are
  pub ruled : rule data_are ≡ true
  pub longer : at + len < next
  pub inside : next ≤ length s

-- what is known of the token at a place of any bytes; a refusal is one of 2 to 5
abbrev pub Tells : List ℕ → ℕ → Result Read Refused → Type 0
Tells s at (Ok (Number value next)) = (Bytes s → is_number value ≡ true) × Spans (length s) at next
Tells s at (Ok (Identifier len next)) = Text s at len next (is_name Named)
Tells s at (Ok (String count next)) = Text s at count next (every Plain)
Tells s at (Ok (Operator n next)) = (Bytes s → n < 8192) × Spans (length s) at next
Tells s at (Ok (Comment next)) = Spans (length s) at next
Tells s at (Err w) = (number_of w.refusal < 6) × (at ≤ length s → (at ≤ w.place) × (w.place ≤ length s))

-- the same of bytes, at a place inside them or at their end
abbrev pub Told : List ℕ → ℕ → Result Read Refused → Type 0
Told s at (Ok (Number value next)) = (is_number value ≡ true) × Spans (length s) at next
Told s at (Ok (Identifier len next)) = Text s at len next (is_name Named)
Told s at (Ok (String count next)) = Text s at count next (every Plain)
Told s at (Ok (Operator n next)) = (n < 8192) × Spans (length s) at next
Told s at (Ok (Comment next)) = Spans (length s) at next
Told s at (Err w) = (at ≤ w.place) × (w.place ≤ length s)

-- ---- a sequence

module _ (s : List ℕ) (at : ℕ) (inside : at < length s) where
  refused_here : at ≤ length s → (at ≤ at) × (at ≤ length s)
  refused_here h = (omega arith, h)

  number_tells : (next : ℕ) (n d : ℤ) → Spans (length s) at next → Tells s at (number_read at next (ratio_of n d))
  unfolding number_read
  number_tells next n d h = by_answer (ratio_of n d) refl
    where
      by_answer : (a : Answer) → ratio_of n d ≡ a → Tells s at (number_read at next (ratio_of n d))
      by_answer (Ok value) e = rw e ((λ f. number_ratio n d value e), h)
      by_answer (Err TooLarge) e = rw e (omega arith, refused_here)
      by_answer (Err ByZero) e = rw e (omega arith, refused_here)

  -- data d that are the whole of the sequence
  module _ (d : List ℕ) (next : ℕ) (is_whole : joined_at s at ≡ whole d next) (longer : at + length d < next) (ends : next ≤ length s) where
    spans : Spans (length s) at next
    spans = (omega arith, ends)

    text_tells : (rule : List ℕ → Bool) → rule d ≡ true → Text s at (length d) next rule
    text_tells rule h = record { data_are = d; joined = is_whole; counted = refl; ruled = h; longer = longer; inside = ends }

    judged_tells : (k : ℕ) → Tells s at (judged k at d next)
    unfolding judged
    judged_tells k =
        either (Tells s at) (eqb k 1) _ _ (λ _. either (Tells s at) (every Plain d) _ _ (λ h. text_tells (every Plain) h) (λ _. (omega arith, refused_here)))
        (λ _. either (Tells s at) (eqb k 2) _ _ (λ _. either (Tells s at) (integer_size (length d)) _ _ (λ _. number_tells next (integer_in (length d) d) (pos 1) spans) (λ _. (omega arith, refused_here)))
        (λ _. either (Tells s at) (eqb k 4) _ _ (λ _. either (Tells s at) (rational_size (length d)) _ _ (λ _. number_tells next _ _ spans) (λ _. (omega arith, refused_here)))
        (λ _. either (Tells s at) (eqb k 5) _ _ (λ _. either (Tells s at) (is_name Named d) _ _ (λ h. text_tells (is_name Named) h) (λ _. (omega arith, refused_here)))
        (λ _. either (Tells s at) (eqb k 6) _ _ (λ _. spans)
        (λ _. either (Tells s at) (eqb k 7) _ _ (λ _. (omega arith, refused_here)) (λ _. (omega arith, refused_here)))))))

  sequence_tells : (k : ℕ) (J : Joined) → joined_at s at ≡ J → Ends (length s) at J → Tells s at (sequence k at J)
  unfolding sequence
  sequence_tells k (whole d next) e h = judged_tells d next e h.0 h.1 k
  sequence_tells k (cut_at place) e h = (omega arith, (λ l. (h.0, omega (arith, h.1))))

-- ---- the token by its first byte

-- a short number is a number
short_number : (v : ℕ) → v < 32768 → is_number (record { num = pos v -ℤ pos 4000; den = 1 }) ≡ true
unfolding is_fraction gcd_of gcd_turns
short_number v h = rw (le-leb (nat_abs (pos v -ℤ pos 4000)) 2147483647 (abs_diff_le v 4000 2147483647 (omega arith) (lit≤ tt)))

pub token_tells : (s : List ℕ) (at : ℕ) → Tells s at (token_at s at)
unfolding token_at token_of
token_tells s at = either (Tells s at) (ltb at (length s)) _ _ (λ e. here (ltb-true at (length s) e)) (λ _. (omega arith, (λ l. (omega arith, l))))
  where
    b : ℕ
    b = get_or s at 0

    e : ℕ
    e = get_or s (at + 1) 0

    two : (t : Result Read Refused) → (at + 2 ≤ length s → Tells s at t) → Tells s at (pair s at t)
    two t g = either (Tells s at) (ltb (at + 1) (length s)) t (Err (refusal_at CutOff at)) (λ k. g (omega (arith, ltb-true (at + 1) (length s) k))) (λ _. (omega arith, (λ l. (omega arith, l))))

    here : at < length s → Tells s at (token_of s at b e)
    here h =
        either (Tells s at) (ltb b 128) _ _ (λ _. two _ (λ k. ((λ f. short_number (b % 128 * 256 + e) (omega (arith, f (at + 1), mod-lt b {m = 128} (lit< tt)))), (omega arith, k))))
        (λ _. either (Tells s at) (ltb b 160) _ _ (λ _. ((λ f. omega (arith, mod-lt b {m = 32} (lit< tt))), (omega arith, omega arith)))
        (λ _. either (Tells s at) (ltb b 192) _ _ (λ _. two _ (λ k. ((λ f. omega (arith, f (at + 1), mod-lt b {m = 32} (lit< tt))), (omega arith, k))))
        (λ _. sequence_tells s at h (b % 32) (joined_at s at) refl (joined_ends s at h))))

told_of : (s : List ℕ) (at : ℕ) (t : Result Read Refused) → Bytes s → at ≤ length s → Tells s at t → Told s at t
told_of s at (Ok (Number value next)) f l h = (h.0 f, h.1)
told_of s at (Ok (Identifier len next)) f l h = h
told_of s at (Ok (String count next)) f l h = h
told_of s at (Ok (Operator n next)) f l h = (h.0 f, h.1)
told_of s at (Ok (Comment next)) f l h = h
told_of s at (Err w) f l h = h.1 l

pub token_told : (s : List ℕ) (at : ℕ) → Bytes s → at ≤ length s → Told s at (token_at s at)
token_told s at f l = told_of s at (token_at s at) f l (token_tells s at)
