-- A sequence in one piece, judged where it lies. In order: a quotient inside the limits before it is reduced; integers of up to four
-- bytes; the data by their type; the token. Assumes nothing.
use Rattle.std.specs.Prelude.{Ok, Err, Some}
use Rattle.tokens.specs.Joined.{piece_from}
use mathlib.Core.Path.{◌≡◌, refl, sym, ap, ◌∙◌}
use mathlib.Core.Bool.{true, false, not, false≢true}
use mathlib.Core.List.{List}
use Prim.Native.Nat.{ℕ, zero, suc, ◌+◌, ◌*◌, ◌/◌, ◌%◌, ◌^◌, ◌<◌, ◌≤◌}
use native.Mathlib.Nat.{le_trans, div-le_self}
use native.Mathlib.Omega.{arith}
use lib.Dec.{ltb, eqb}
use lib.IntN.{ℤ, pos, negsuc, neg_ℤ, nat_abs, ◌-ℤ◌}
use lib.ListN.{length, get_or, take, drop}
use lib.Pow.{pow_mono}
use lib.Seq.{slice}
use lib.Signed.{quot_z}
use borrow.Author.Tests.{lt-ltb, le-ltb, le-leb, eq-eqb, ne_eqb, ltb-true, ltb-false}
use Rattle.numbers.specs.Fraction.{Answer}
use Rattle.numbers.specs.declared.NoNumber.TheVariants.{TooLarge, ByZero}
use Rattle.numbers.specs.Gcd.{gcd_of}
use Rattle.numbers.specs.Whole.{signed, signed_by}
use Rattle.numbers.specs.Fraction.{most, limited, ratio_of}
use Rattle.numbers.proofs.Cond.{either}
use Rattle.numbers.proofs.Signs.{abs_signed, signed_quot}
use Rattle.tokens.specs.declared.Rule.TheVariants.{Plain, Named}
use Rattle.tokens.specs.Bytes.{value_of, signed_of}
use Rattle.tokens.specs.Text.{every, is_name}
use Rattle.tokens.specs.Joined.{continued, piece_at, joined_at}
use Rattle.tokens.specs.Token.{number_read, integer_size, rational_size, integer_in, rational_in, judged, sequence, token_of, token_at}
use Rattle.tokens.specs.Passing.{pass_of, Answered}
use Rattle.tokens.proofs.Signs.{abs_diff}
use Rattle.tokens.proofs.Pieces.{joined_data}
use Rattle.tokens.proofs.Turns.{turn}

-- ---- a quotient

abs_quot : (z : ℤ) (g : ℕ) → nat_abs (quot_z z (pos g)) ≡ nat_abs z / g
unfolding signed
abs_quot (pos n) g = ap nat_abs (sym (signed_quot false n g)) ∙ abs_signed false (n / g)
abs_quot (negsuc n) g = ap nat_abs (sym (signed_quot true (suc n) g)) ∙ abs_signed true (suc n / g)

abs_neg : (z : ℤ) → nat_abs (neg_ℤ z) ≡ nat_abs z
abs_neg (pos zero) = refl
abs_neg (pos (suc n)) = refl
abs_neg (negsuc n) = refl

abs_by : (n d : ℤ) → nat_abs (signed_by n d) ≡ nat_abs n
unfolding signed_by
abs_by n (pos d) = refl
abs_by n (negsuc d) = abs_neg n

-- reducing makes nothing larger
ratio_answered : (n d : ℤ) → nat_abs n ≤ most → nat_abs d ≤ most → (nat_abs d ≡ 0 → ⊥) → Answered (ratio_of n d)
unfolding ratio_of limited
ratio_answered n d hn hd h =
    let g = gcd_of (nat_abs n) (nat_abs d) in
    let e : nat_abs (quot_z (signed_by n d) (pos g)) ≡ nat_abs n / g = abs_quot (signed_by n d) g ∙ ap (λ (x : ℕ). x / g) (abs_by n d) in
    rw (ne_eqb (nat_abs d) 0 h, e, le-leb (nat_abs n / g) most (le_trans (div-le_self (nat_abs n) g) hn), le-leb (nat_abs d / g) most (le_trans (div-le_self (nat_abs d) g) hd)) tt

-- ---- integers of up to four bytes

module _ (n v : ℕ) (hv : v < 2 ^ (8 * n)) where
  not_zero : (v ≡ 0 → ⊥) → nat_abs (signed_of n v) ≡ 0 → ⊥
  unfolding signed_of
  not_zero h =
      either (λ z. nat_abs z ≡ 0 → ⊥) (ltb (v * 2) (2 ^ (8 * n))) (pos v) (pos v -ℤ pos (2 ^ (8 * n)))
      (λ _. h) (λ _ e. omega (arith, abs_diff v (2 ^ (8 * n)) hv))

  -- of at most p + p values none but p itself is as far from 0 as p
  near : (p : ℕ) → 2 ^ (8 * n) ≤ p + p → (v ≡ p → ⊥) → nat_abs (signed_of n v) < p
  unfolding signed_of
  near p k h =
      either (λ z. nat_abs z < p) (ltb (v * 2) (2 ^ (8 * n))) (pos v) (pos v -ℤ pos (2 ^ (8 * n)))
      (λ e. omega (arith, ltb-true (v * 2) (2 ^ (8 * n)) e))
      (λ e. rw (abs_diff v (2 ^ (8 * n)) hv) (omega (arith, ltb-false (v * 2) (2 ^ (8 * n)) e)))

  small : n ≤ 4 → (v ≡ 2147483648 → ⊥) → nat_abs (signed_of n v) ≤ most
  small hn h = let k : 2 ^ (8 * n) ≤ 2 ^ 32 = pow_mono {j = 32} (omega arith) in omega (arith, near 2147483648 k h)

-- ---- the data by their type

pub differs : (a b : ℕ) → not (eqb a b) ≡ true → a ≡ b → ⊥
differs a b e z = false≢true (ap not (sym (eq-eqb a b z)) ∙ e)

pub integer_answered : (n v : ℕ) (d : List ℕ) → v ≡ value_of d → n ≤ 4 → v < 2 ^ (8 * n) → (v ≡ 2147483648 → ⊥) → Answered (ratio_of (integer_in n d) (pos 1))
integer_answered n v d e hn hv h = rw (← e) (ratio_answered (signed_of n v) (pos 1) (small n v hv hn h) (omega arith) (λ z. omega arith))

-- two halves of h bytes
pub rational_answered : (h v w : ℕ) (d : List ℕ) → h ≤ 4 → v ≡ value_of (take h d) → w ≡ value_of (drop h d) → v < 2 ^ (8 * h) → w < 2 ^ (8 * h)
    → (v ≡ 2147483648 → ⊥) → (w ≡ 2147483648 → ⊥) → (w ≡ 0 → ⊥) → Answered (rational_in h d)
rational_answered h v w d hh e f hv hw nv nw nz =
    rw (← e, ← f) (ratio_answered (signed_of h v) (signed_of h w) (small h v hv hh nv) (small h w hw hh nw) (not_zero h w hw nz))

answered_over : (at next : ℕ) (a : Answer) → Answered a → pass_of (number_read at next a) ≡ Ok next
unfolding pass_of number_read
answered_over at next (Ok value) h = refl
answered_over at next (Err TooLarge) h = absurd h
answered_over at next (Err ByZero) h = absurd h

module _ (k n : ℕ) (d : List ℕ) (l : length d ≡ n) (at next : ℕ) where
  pub string_over : k ≡ 1 → every Plain d ≡ true → pass_of (judged k at d next) ≡ Ok next
  unfolding pass_of judged
  string_over e h = rw (e, h)

  pub integer_over : k ≡ 2 → (integer_size n ≡ true) × Answered (ratio_of (integer_in n d) (pos 1)) → pass_of (judged k at d next) ≡ Ok next
  unfolding judged
  integer_over e h = rw (e, l, h.0) (answered_over at next (ratio_of (integer_in n d) (pos 1)) h.1)

  pub rational_over : k ≡ 4 → (rational_size n ≡ true) × Answered (rational_in (n / 2) d) → pass_of (judged k at d next) ≡ Ok next
  unfolding judged
  rational_over e h = rw (e, l, h.0) (answered_over at next (rational_in (n / 2) d) h.1)

  pub name_over : k ≡ 5 → is_name Named d ≡ true → pass_of (judged k at d next) ≡ Ok next
  unfolding pass_of judged
  name_over e h = rw (e, h)

  pub comment_over : k ≡ 6 → pass_of (judged k at d next) ≡ Ok next
  unfolding pass_of judged
  comment_over e = rw e

-- ---- the token

-- a piece that nothing continues is all of its sequence
pub sequence_one : (k : ℕ) (s : List ℕ) (at f n : ℕ) → piece_at s at ≡ Some (piece_from f n) → continued (get_or s (f + n) 0) ≡ false → sequence k at (joined_at s at) ≡ judged k at (slice f (f + n) s) (f + n)
unfolding sequence
sequence_one k s at f n p h = rw (joined_data s at f n p, turn (length s) s (f + n) (slice f (f + n) s) (omega arith), h)

module _ (s : List ℕ) (at : ℕ) (here : at < length s) (first : 192 ≤ get_or s at 0) where
  pub sequence_is : token_at s at ≡ sequence (get_or s at 0 % 32) at (joined_at s at)
  unfolding token_at token_of
  sequence_is = simp (lt-ltb at (length s) here, le-ltb (get_or s at 0) 128 (omega arith), le-ltb (get_or s at 0) 160 (omega arith), le-ltb (get_or s at 0) 192 (omega arith))

  pub one_piece : (f n : ℕ) → piece_at s at ≡ Some (piece_from f n) → continued (get_or s (f + n) 0) ≡ false → token_at s at ≡ judged (get_or s at 0 % 32) at (slice f (f + n) s) (f + n)
  one_piece f n p h = sequence_is ∙ sequence_one (get_or s at 0 % 32) s at f n p h
