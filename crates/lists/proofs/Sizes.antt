-- The words of a number: its short form, the fewest bytes that hold it; and the length of written tokens. Assumes nothing.
use Rattle.std.specs.Prelude.{Some}
use Rattle.std.proofs.Common.{◌≡◌, ℕ, zero, suc, ◌+◌, ◌-◌, ◌*◌, ◌/◌, ◌%◌, ◌^◌, ◌<◌, ◌≤◌, Bool, false, cond, List, [], ◌∷◌, ◌++◌, length, ℤ, pos, negsuc, ◌+ℤ◌, sym, refl, ap, ◌∙◌, lt_of_lt_of_le, mul_assoc, add-mul, one-mul, arith, length-append, pow_pos, pow_mono, pow-add, w32, to_z, le-ltb, lt-ltb, ne_eqb}
use lib.Seq.{slice}
use lib.IntN.{sub_ℕ}
use lib.Signed.{mag}
use Rattle.numbers.proofs.Cond.{split}
use Rattle.lists.specs.Written.{bytes_of, complement_of, integer_bytes, bytes_in, larger, is_short, sequence_bytes, whole_bytes, rational_bytes, operator_bytes, token_bytes}
use Rattle.items.specs.declared.Item.{Item}
use Rattle.items.specs.declared.Item.TheVariants.{Number, Identifier, String, Operator}
use Rattle.items.specs.Judged.{number_in, entry_is, GoodItem}
use Rattle.lists.specs.Inner.{Small, head_bytes, integer_sequence, entry_bytes}
use Rattle.items.proofs.WordSizes.{low, high}
use Rattle.lists.proofs.HighBytes.{bytes_length}
use Rattle.lists.proofs.Storing.{sequence_is, head_short, head_long}

-- ---- short numbers

sub_low : (m : ℕ) → m ≤ 4000 → sub_ℕ 4000 m ≡ pos (4000 - m)
sub_low m h = ap (λ (b : Bool). cond b (negsuc (m - suc 4000)) (pos (4000 - m))) (le-ltb 4000 m h)

sub_high : (m : ℕ) → 4000 < m → sub_ℕ 4000 m ≡ negsuc (m - suc 4000)
sub_high m h = ap (λ (b : Bool). cond b (negsuc (m - suc 4000)) (pos (4000 - m))) (lt-ltb 4000 m h)

module _ (a v : ℕ) (h : a < 4294967296) (e : v ≡ (a + 4000) % 4294967296) where
  raised_is : v < 32768 → to_z w32 a +ℤ pos 4000 ≡ pos v
  raised_is g =
      split a 2147483648
      (λ k. ap (λ (z : ℤ). z +ℤ pos 4000) (low a k) ∙ ap pos (omega arith))
      (λ k. ap (λ (z : ℤ). z +ℤ pos 4000) (high a k) ∙ sub_low (suc (4294967296 - suc a)) (omega arith) ∙ ap pos (omega arith))

  pub short_yes : v < 32768 → whole_bytes (to_z w32 a) ≡ (v / 256) ∷ (v % 256) ∷ []
  unfolding whole_bytes is_short
  short_yes g = rw (raised_is g, lt-ltb v 32768 g)

  not_short : 32768 ≤ v → is_short (to_z w32 a) ≡ false
  unfolding is_short
  not_short g =
      split a 2147483648
      (λ k. rw (low a k, le-ltb (a + 4000) 32768 (omega arith)))
      (λ k. rw (high a k, sub_high (suc (4294967296 - suc a)) (omega arith)))

  pub short_no : 32768 ≤ v → whole_bytes (to_z w32 a) ≡ integer_sequence (to_z w32 a)
  unfolding whole_bytes
  short_no g = rw (not_short g)

-- ---- the fewest bytes

bytes_mag : (z : ℤ) → bytes_in (pos (mag z)) ≡ bytes_in z
unfolding bytes_in
bytes_mag z = refl

pub bytes_1 : (m : ℕ) → m < 128 → bytes_in (pos m) ≡ 1
unfolding bytes_in
bytes_1 m h = rw (lt-ltb m 128 h)

pub bytes_2 : (m : ℕ) → 128 ≤ m → m < 32768 → bytes_in (pos m) ≡ 2
unfolding bytes_in
bytes_2 m g h = rw (le-ltb m 128 g, lt-ltb m 32768 h)

pub bytes_3 : (m : ℕ) → 128 ≤ m → 32768 ≤ m → m < 8388608 → bytes_in (pos m) ≡ 3
unfolding bytes_in
bytes_3 m f g h = rw (le-ltb m 128 f, le-ltb m 32768 g, lt-ltb m 8388608 h)

pub bytes_4 : (m : ℕ) → 128 ≤ m → 32768 ≤ m → 8388608 ≤ m → bytes_in (pos m) ≡ 4
unfolding bytes_in
bytes_4 m f g h = rw (le-ltb m 128 f, le-ltb m 32768 g, le-ltb m 8388608 h)

-- from the size in a word
pub bytes_of_lem : (a m r : ℕ) → m ≡ mag (to_z w32 a) → r ≡ bytes_in (pos m) → r ≡ bytes_in (to_z w32 a)
bytes_of_lem a m r e f = f ∙ ap (λ (n : ℕ). bytes_in (pos n)) e ∙ bytes_mag (to_z w32 a)

pub larger_right : (a b x y : ℕ) → a ≡ x → b ≡ y → a < b → b ≡ larger x y
larger_right a b x y e f h = rw (← e, ← f, lt-ltb a b h)

pub larger_left : (a b x y : ℕ) → a ≡ x → b ≡ y → b ≤ a → a ≡ larger x y
larger_left a b x y e f h = rw (← e, ← f, le-ltb a b h)

-- they hold it
bytes_hold : (m : ℕ) → m < 2147483648 → m < 2 ^ (8 * bytes_in (pos m))
bytes_hold m h =
    split m 128 (λ a. rw (bytes_1 m a) (omega arith))
    (λ a. split m 32768 (λ b. rw (bytes_2 m a b) (omega arith))
    (λ b. split m 8388608 (λ d. rw (bytes_3 m a b d) (omega arith))
    (λ d. rw (bytes_4 m a b d) (omega arith))))

-- k bytes are those of the value below 2^(8k)
bytes_low : (k c v : ℕ) → bytes_of k (c * 2 ^ (8 * k) + v) ≡ bytes_of k v
unfolding bytes_of
bytes_low zero c v = refl
bytes_low (suc k) c v =
    let e : 8 * suc k ≡ 8 * k + 8 = omega arith in
    let p : c * 2 ^ (8 * suc k) + v ≡ c * 2 ^ (8 * k) * 256 + v = rw (e, pow-add 2 (8 * k) 8, ← mul_assoc c (2 ^ (8 * k)) 256) in
    let q : (c * 2 ^ (8 * k) * 256 + v) / 256 ≡ c * 2 ^ (8 * k) + v / 256 = omega arith in
    let r : (c * 2 ^ (8 * k) * 256 + v) % 256 ≡ v % 256 = omega arith in
    rw (p, q, r, bytes_low k c (v / 256))

-- a word below 0, which is 2^32 less its size, and the complement of k bytes
complement : (p m : ℕ) (k c : ℕ) → c * 2 ^ (8 * k) ≡ p → m < 2 ^ (8 * k) → 0 < c → bytes_of k (p - suc m) ≡ bytes_of k (2 ^ (8 * k) - suc m)
complement p m k zero e h g = absurd (omega arith)
complement p m k (suc c) e h g =
    let f : p - suc m ≡ c * 2 ^ (8 * k) + (2 ^ (8 * k) - suc m) = omega (arith, add-mul c 1 (2 ^ (8 * k)), one-mul (2 ^ (8 * k)), e) in
    rw f (bytes_low k c (2 ^ (8 * k) - suc m))

word_bytes : (a k : ℕ) → a < 4294967296 → k ≤ 4 → bytes_in (to_z w32 a) ≤ k → bytes_of k a ≡ integer_bytes k (to_z w32 a)
unfolding complement_of
word_bytes a k h g f =
    split a 2147483648
    (λ l. rw (low a l))
    (λ l.
    let m : ℕ = 4294967296 - suc a in
    let b : bytes_in (pos m) ≤ k = rw (high a l, ← bytes_mag (negsuc m)) at f in
    let i : m < 2 ^ (8 * k) = lt_of_lt_of_le (bytes_hold m (omega arith)) (pow_mono {i = 8 * bytes_in (pos m)} {j = 8 * k} (omega arith)) in
    let n : 32 - 8 * k + 8 * k ≡ 32 = omega arith in
    let c : 2 ^ (32 - 8 * k) * 2 ^ (8 * k) ≡ 4294967296 = sym (pow-add 2 (32 - 8 * k) (8 * k)) ∙ ap (λ (j : ℕ). 2 ^ j) n in
    let e : a ≡ 4294967296 - suc m = omega arith in
    rw (high a l) (ap (bytes_of k) e ∙ complement 4294967296 m k (2 ^ (32 - 8 * k)) c i (pow_pos (32 - 8 * k))))

-- ---- the forms of a number, from its words

-- a sequence of n bytes d is its head and the bytes e, which are the same
sequence_of : (k n : ℕ) (d e : List ℕ) → length d ≡ n → e ≡ d → sequence_bytes k d ≡ head_bytes k n ++ e
sequence_of k n d e l f = sequence_is k d ∙ rw (l, f)

pub integer_is : (a k : ℕ) → a < 4294967296 → (k ≡ bytes_in (to_z w32 a)) × (k ≤ 4) → integer_sequence (to_z w32 a) ≡ head_bytes 2 k ++ bytes_of k a
integer_is a k h b =
    let z : ℤ = to_z w32 a in
    rw (← b.0) (sequence_of 2 k (integer_bytes k z) (bytes_of k a) (bytes_length k (complement_of k z)) (word_bytes a k h b.1 (omega (arith, b.0))))

le_larger : (x y : ℕ) → x ≤ larger x y
le_larger x y = split x y (λ h. rw (lt-ltb x y h) (omega arith)) (λ h. rw (le-ltb x y h) (omega arith))

pub rational_is : (a d k : ℕ) → a < 4294967296 → (k ≡ larger (bytes_in (to_z w32 a)) (bytes_in (pos d))) × (k ≤ 4) →
    rational_bytes (to_z w32 a) d ≡ head_bytes 4 (k + k) ++ (bytes_of k a ++ bytes_of k d)
unfolding rational_bytes complement_of
rational_is a d k h b =
    let z : ℤ = to_z w32 a in
    let n : List ℕ = bytes_of k (complement_of k z) in
    let l : length (n ++ bytes_of k d) ≡ k + k = length-append n (bytes_of k d) ∙ rw (bytes_length k (complement_of k z), bytes_length k d) in
    let f : bytes_of k a ≡ n = word_bytes a k h b.1 (omega (arith, b.0, le_larger (bytes_in z) (bytes_in (pos d)))) in
    rw (← b.0) (sequence_of 4 (k + k) (n ++ bytes_of k d) (bytes_of k a ++ bytes_of k d) l (rw f))

pub one_is : (a d : ℕ) → d ≡ 1 → token_bytes (number_in a d) ≡ whole_bytes (to_z w32 a)
unfolding token_bytes
one_is a d h = rw h

pub other_is : (a d : ℕ) → (d ≡ 1 → ⊥) → token_bytes (number_in a d) ≡ rational_bytes (to_z w32 a) d
unfolding token_bytes
other_is a d h = rw (ne_eqb d 1 h)

-- ---- lengths

pub short_length : (k n : ℕ) → n ≤ 255 → length (head_bytes k n) ≡ 2
short_length k n h = rw (head_short k n h)

pub long_length : (k n : ℕ) → 255 < n → length (head_bytes k n) ≡ 4
long_length k n h = rw (head_long k n h) (omega (arith, bytes_length 3 n))

-- a head and n bytes, where these are few
few : (k n : ℕ) (b : List ℕ) → n ≤ 255 → length b ≡ n → length (head_bytes k n ++ b) ≡ 2 + n
few k n b h e = omega (arith, length-append (head_bytes k n) b, short_length k n h, e)

pub integer_length : (a k : ℕ) → a < 4294967296 → (k ≡ bytes_in (to_z w32 a)) × (k ≤ 4) → 2 + k ≡ length (integer_sequence (to_z w32 a))
integer_length a k h b = rw (integer_is a k h b) (sym (few 2 k (bytes_of k a) (omega (arith, b.1)) (bytes_length k a)))

pub rational_length : (a d k : ℕ) → a < 4294967296 → (d ≡ 1 → ⊥) → (k ≡ larger (bytes_in (to_z w32 a)) (bytes_in (pos d))) × (k ≤ 4) → 2 + k + k ≡ length (token_bytes (number_in a d))
rational_length a d k h n b =
    let l : length (bytes_of k a ++ bytes_of k d) ≡ k + k = length-append (bytes_of k a) (bytes_of k d) ∙ rw (bytes_length k a, bytes_length k d) in
    rw (other_is a d n, rational_is a d k h b) (omega (arith, few 4 (k + k) (bytes_of k a ++ bytes_of k d) (omega (arith, b.1)) l))

-- ---- the bytes of a judged token

module _ (x : List ℕ) (i : Item) where
  pub number_bytes : (a b : ℕ) → i ≡ Number a b → entry_bytes (entry_is x (Some i)) ≡ token_bytes (number_in a b)
  unfolding entry_bytes entry_is
  number_bytes a b e = rw e

  pub identifier_bytes : (s n : ℕ) → i ≡ Identifier s n → entry_bytes (entry_is x (Some i)) ≡ sequence_bytes 5 (slice s (s + n) x)
  unfolding entry_bytes entry_is token_bytes
  identifier_bytes s n e = rw e

  pub string_bytes : (s n : ℕ) → i ≡ String s n → entry_bytes (entry_is x (Some i)) ≡ sequence_bytes 1 (slice s (s + n) x)
  unfolding entry_bytes entry_is token_bytes
  string_bytes s n e = rw e

  pub operator_bytes_lem : (n : ℕ) → i ≡ Operator n → entry_bytes (entry_is x (Some i)) ≡ operator_bytes n
  unfolding entry_bytes entry_is token_bytes
  operator_bytes_lem n e = rw e

pub small_item : (x : List ℕ) (i : Item) → GoodItem x (Some i) → Small i
small_item x (Number a b) g = tt
small_item x (Identifier s n) g = g.1
small_item x (String s n) g = g.1
small_item x (Operator n) g = tt
