-- A number is read back: a short number, an integer, a rational of two halves. Assumes nothing.
use Rattle.std.specs.Prelude.{Ok}
use Rattle.std.proofs.Common.{◌≡◌, ℕ, ◌+◌, ◌*◌, ◌/◌, ◌%◌, ◌<◌, ◌≤◌, Bool, true, false, T, eqb, ltb, List, [], ◌∷◌, ◌++◌, length, get_or, ℤ, pos, ◌+ℤ◌, ◌-ℤ◌, sym, ap, ◌∙◌, subst, arith, length-append, take_at, get_or-append-add, drop_at, ltb-true, lt-ltb, eqb-true, le-leb}
use lib.Seq.{get_or-append_seam}
use lib.IntN.{+ℤ-neg_ℤ_cancel}
use lib.Signed.{non_neg, pos-nat_abs}
use borrow.Author.Tests.{lt-leb}
use Rattle.numbers.specs.declared.Number.{Number}
use Rattle.numbers.specs.Fraction.{ratio_of, is_number}
use Rattle.tokens.specs.declared.Read.TheVariants as R
use Rattle.tokens.specs.Format.{integer_type, rational_type}
use Rattle.tokens.specs.Joined.{continued}
use Rattle.tokens.specs.Token.{token_at, token_of, judged, number_read, integer_in, rational_in}
use Rattle.lists.specs.Written.{complement_of, integer_bytes, bytes_in, larger, raised, is_short, sequence_bytes, whole_bytes, rational_bytes, token_bytes}
use Rattle.items.specs.Tokens.{number}
use Rattle.numbers.proofs.Cond.{both, by_test}
use Rattle.lists.proofs.HighBytes.{bytes_length, bytes_value}
use Rattle.lists.proofs.SignedBack.{complement_lt, signed_back, Held, bytes_in_holds, larger_holds}
use Rattle.lists.proofs.NumberLimits.{number_limits}
use Rattle.numbers.proofs.Theorems.{ratio_number}
use Rattle.lists.proofs.SequenceBack.{sequence_back, sequence_plain, sequence_length}

-- ---- short numbers

-- the 15 bits, less 4000
raised_back : (z : ℤ) → is_short z ≡ true → (raised z < 32768) × (pos (raised z) -ℤ pos 4000 ≡ z)
unfolding is_short
raised_back z h =
    let t = both (non_neg (z +ℤ pos 4000)) (ltb (raised z) 32768) h in
    let n = pos-nat_abs (z +ℤ pos 4000) (subst (λ (b : Bool). T b) (sym t.0) tt) in
    (ltb-true (raised z) 32768 t.1, ap (λ (y : ℤ). y -ℤ pos 4000) n ∙ +ℤ-neg_ℤ_cancel z (pos 4000))

short_read : (p r : List ℕ) (v : ℕ) → v < 32768
    → token_at (p ++ (v / 256) ∷ (v % 256) ∷ r) (length p) ≡ Ok (R.Number (record { num = pos v -ℤ pos 4000; den = 1 }) (length p + 2))
unfolding token_at token_of
short_read p r v h =
    let b : ℕ = v / 256 in
    let s : List ℕ = p ++ b ∷ (v % 256) ∷ r in
    let e : (v / 256) % 128 * 256 + v % 256 ≡ v = omega arith in
    rw (
      lt-ltb (length p) (length s) (simp length-append (omega arith)),
      get_or-append_seam p b ((v % 256) ∷ r) 0,
      get_or-append-add p (b ∷ (v % 256) ∷ r) 1 0,
      lt-ltb b 128 (omega arith),
      lt-ltb (length p + 1) (length s) (simp length-append (omega arith)),
      e,
    )

-- ---- integers and halves

integer_in_lem : (k : ℕ) (z : ℤ) → Held z k → integer_in k (integer_bytes k z) ≡ z
integer_in_lem k z h = rw (bytes_value k (complement_of k z) (complement_lt k z h.some h.in_them)) (signed_back k z h.some h.in_them)

rational_in_lem : (k : ℕ) (y z : ℤ) → Held y k → Held z k → rational_in k (integer_bytes k y ++ integer_bytes k z) ≡ ratio_of y z
rational_in_lem k y z h i =
    rw (
      take_at (integer_bytes k y) (integer_bytes k z) k (bytes_length k (complement_of k y)),
      drop_at (integer_bytes k y) (integer_bytes k z) k (bytes_length k (complement_of k y)),
      integer_in_lem k y h,
      integer_in_lem k z i,
    )

halves_length : (k : ℕ) (y z : ℤ) → length (integer_bytes k y ++ integer_bytes k z) ≡ k + k
halves_length k y z = length-append (integer_bytes k y) (integer_bytes k z) ∙ rw (bytes_length k (complement_of k y), bytes_length k (complement_of k z))

judged_integer : (at next k : ℕ) (a : Number) → is_number a ≡ true → a.den ≡ 1 → Held a.num k
    → judged integer_type at (integer_bytes k a.num) next ≡ Ok (R.Number a next)
unfolding judged number_read
judged_integer at next k a w one h =
    let e : ratio_of a.num (pos 1) ≡ Ok a = ap (λ (d : ℕ). ratio_of a.num (pos d)) (sym one) ∙ ratio_number a w in
    rw (bytes_length k (complement_of k a.num), le-leb 1 k h.some, le-leb k 4 h.most, integer_in_lem k a.num h, e)

judged_rational : (at next k : ℕ) (a : Number) → is_number a ≡ true → Held a.num k → Held (pos a.den) k
    → judged rational_type at (integer_bytes k a.num ++ integer_bytes k (pos a.den)) next ≡ Ok (R.Number a next)
unfolding judged number_read
judged_rational at next k a w h i =
    let n = halves_length k a.num (pos a.den) in
    let m : (k + k) % 2 ≡ 0 = omega arith in
    let e : (k + k) / 2 ≡ k = omega arith in
    rw (n, m, e, le-leb 2 (k + k) (omega (arith, h.some)), le-leb (k + k) 8 (omega (arith, h.most)), rational_in_lem k a.num (pos a.den) h i, ratio_number a w)

-- ---- the bytes of a number

whole_short : (z : ℤ) → is_short z ≡ true → whole_bytes z ≡ (raised z / 256) ∷ (raised z % 256) ∷ []
unfolding whole_bytes
whole_short z h = rw h

whole_long : (z : ℤ) → is_short z ≡ false → whole_bytes z ≡ sequence_bytes integer_type (integer_bytes (bytes_in z) z)
unfolding whole_bytes
whole_long z h = rw h

module _ (a : Number) (w : is_number a ≡ true) where
  num_held : Held a.num (bytes_in a.num)
  num_held = bytes_in_holds a.num (number_limits a w).small

  den_held : Held (pos a.den) (bytes_in (pos a.den))
  den_held = bytes_in_holds (pos a.den) (number_limits a w).below

  both_held : Held a.num (larger (bytes_in a.num) (bytes_in (pos a.den))) × Held (pos a.den) (larger (bytes_in a.num) (bytes_in (pos a.den)))
  both_held = larger_holds a.num (pos a.den) (bytes_in a.num) (bytes_in (pos a.den)) num_held den_held

  module _ (p r : List ℕ) (last : continued (get_or r 0 0) ≡ false) where
    whole_back : a.den ≡ 1 → token_at (p ++ (whole_bytes a.num ++ r)) (length p) ≡ Ok (R.Number a (length p + length (whole_bytes a.num)))
    whole_back one =
        let z = a.num in
        let k = bytes_in z in
        by_test (is_short z)
        (λ h.
        let b = raised_back z h in
        let e : Ok (R.Number (record { num = a.num; den = 1 }) (length p + 2)) ≡ Ok (R.Number a (length p + 2)) =
        ap (λ (d : ℕ). Ok (R.Number (record { num = a.num; den = d }) (length p + 2))) (sym one) in
        rw (whole_short z h) (short_read p r (raised z) b.0 ∙ rw b.1 e))
        (λ h.
        let s = sequence_back p r integer_type (integer_bytes k z) (omega arith) (omega (arith, bytes_length k (complement_of k z), num_held.most)) last in
        rw (whole_long z h) (s.1 ∙ judged_integer (length p) _ k a w one num_held))

    rational_back : token_at (p ++ (rational_bytes a.num a.den ++ r)) (length p) ≡ Ok (R.Number a (length p + length (rational_bytes a.num a.den)))
    unfolding rational_bytes
    rational_back =
        let k = larger (bytes_in a.num) (bytes_in (pos a.den)) in
        let d = integer_bytes k a.num ++ integer_bytes k (pos a.den) in
        let h = both_held in
        let s = sequence_back p r rational_type d (omega arith) (omega (arith, halves_length k a.num (pos a.den), h.0.most)) last in
        s.1 ∙ judged_rational (length p) _ k a w h.0 h.1

    pub number_back : token_at (p ++ (token_bytes (number a) ++ r)) (length p) ≡ Ok (R.Number a (length p + length (token_bytes (number a))))
    unfolding token_bytes
    number_back = by_test (eqb a.den 1) (λ e. rw e (whole_back (eqb-true a.den 1 e))) (λ e. rw e rational_back)

-- a number's first byte does not continue a sequence
whole_plain : (z : ℤ) (r : List ℕ) → continued (get_or (whole_bytes z ++ r) 0 0) ≡ false
whole_plain z r =
    by_test (is_short z)
    (λ h. let b = raised_back z h in rw (whole_short z h, lt-leb 192 (raised z / 256) (omega (arith, b.0))))
    (λ h. rw (whole_long z h) (sequence_plain integer_type (integer_bytes (bytes_in z) z) r (omega arith) (λ e. omega arith)))

pub number_plain : (a : Number) (r : List ℕ) → continued (get_or (token_bytes (number a) ++ r) 0 0) ≡ false
unfolding token_bytes rational_bytes
number_plain a r =
    by_test (eqb a.den 1)
    (λ e. rw e (whole_plain a.num r))
    (λ e. rw e (sequence_plain rational_type _ r (omega arith) (λ e. omega arith)))

whole_some : (z : ℤ) → 1 ≤ length (whole_bytes z)
whole_some z =
    by_test (is_short z)
    (λ h. rw (whole_short z h) (omega arith))
    (λ h. rw (whole_long z h) (omega (arith, sequence_length integer_type (integer_bytes (bytes_in z) z))))

pub number_some : (a : Number) → 1 ≤ length (token_bytes (number a))
unfolding token_bytes rational_bytes
number_some a =
    let k = larger (bytes_in a.num) (bytes_in (pos a.den)) in
    by_test (eqb a.den 1)
    (λ e. rw e (whole_some a.num))
    (λ e. rw e (omega (arith, sequence_length rational_type (integer_bytes k a.num ++ integer_bytes k (pos a.den)))))
