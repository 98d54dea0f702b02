-- Whole numbers by sign and size, as the code computes them. In order: two signs; a size negated, multiplied, added, subtracted,
-- divided and compared with its sign. Assumes nothing.
use mathlib.Core.Path.{◌≡◌, refl, sym, ap, ◌∙◌}
use mathlib.Core.Bool.{Bool, true, false, not, xor, cond, ◌||◌, true≢false, false≢true}
use Prim.Native.Nat.{ℕ, zero, suc, ◌+◌, ◌-◌, ◌*◌, ◌/◌, ◌<◌, ◌≤◌}
use native.Mathlib.Nat.{zero-div}
use native.Mathlib.Omega.{arith}
use lib.Dec.{ltb, leb-suc-suc}
use lib.IntN.{ℤ, pos, negsuc, neg_ℤ, nat_abs, ◌+ℤ◌, ◌-ℤ◌, ◌*ℤ◌, neg_ℤ-neg_ℤ, neg_ℤ-+ℤ, zero-*ℤ, *ℤ_comm, +ℤ_comm, +ℤ_one}
use lib.Signed.{quot_z, lt_z}
use borrow.Author.Tests.{lt-ltb, le-ltb}
use Rattle.numbers.specs.Whole.{signed, signed_by}

-- what holds for each pair of signs holds for any two
pub signs : (P : Bool → Bool → Type 0) → P true true → P true false → P false true → P false false → (s t : Bool) → P s t
signs P a b c d true true = a
signs P a b c d true false = b
signs P a b c d false true = c
signs P a b c d false false = d

-- signs that differ
pub unlike_is : (s t : Bool) → cond s (not t) t ≡ xor s t
unfolding xor
unlike_is = signs (λ s t. cond s (not t) t ≡ xor s t) refl refl refl refl

unlike_comm : (s t : Bool) → xor s t ≡ xor t s
unfolding xor
unlike_comm = signs (λ s t. xor s t ≡ xor t s) refl refl refl refl

pub unlike_twice : (s t : Bool) → xor t (xor s t) ≡ s
unfolding xor
unlike_twice = signs (λ s t. xor t (xor s t) ≡ s) refl refl refl refl

pub unlike_last : (s t : Bool) → xor (xor s t) t ≡ xor s false
unfolding xor
unlike_last = signs (λ s t. xor (xor s t) t ≡ xor s false) refl refl refl refl

pub unlike_not : (s : Bool) → xor s (not s) ≡ true
unfolding xor
unlike_not true = refl
unlike_not false = refl

pub other : (s t : Bool) → xor s t ≡ true → not s ≡ t
unfolding xor
other = signs (λ s t. xor s t ≡ true → not s ≡ t) (λ e. absurd (false≢true e)) (λ e. refl) (λ e. refl) (λ e. absurd (false≢true e))

-- sizes with a sign before them
pub signed_not : (s : Bool) (n : ℕ) → signed (not s) n ≡ neg_ℤ (signed s n)
unfolding signed
signed_not true n = sym (neg_ℤ-neg_ℤ (pos n))
signed_not false n = refl

pub abs_signed : (s : Bool) (n : ℕ) → nat_abs (signed s n) ≡ n
unfolding signed
abs_signed true zero = refl
abs_signed true (suc n) = refl
abs_signed false n = refl

pub neg_mul : (x y : ℤ) → neg_ℤ x *ℤ y ≡ neg_ℤ (x *ℤ y)
neg_mul (pos zero) y = zero-*ℤ y ∙ ap neg_ℤ (sym (zero-*ℤ y))
neg_mul (pos (suc n)) (pos m) = refl
neg_mul (pos (suc n)) (negsuc m) = sym (neg_ℤ-neg_ℤ (pos (suc n * suc m)))
neg_mul (negsuc n) (pos m) = sym (neg_ℤ-neg_ℤ (pos (suc n * m)))
neg_mul (negsuc n) (negsuc m) = refl

mul_neg : (x y : ℤ) → x *ℤ neg_ℤ y ≡ neg_ℤ (x *ℤ y)
mul_neg x y = *ℤ_comm x (neg_ℤ y) ∙ neg_mul y x ∙ ap neg_ℤ (*ℤ_comm y x)

pub signed_mul : (s t : Bool) (a b : ℕ) → signed (xor s t) (a * b) ≡ signed s a *ℤ signed t b
unfolding signed xor
signed_mul true true a b = sym (neg_mul (pos a) (neg_ℤ (pos b)) ∙ ap neg_ℤ (mul_neg (pos a) (pos b)) ∙ neg_ℤ-neg_ℤ (pos (a * b)))
signed_mul true false a b = sym (neg_mul (pos a) (pos b))
signed_mul false true a b = sym (mul_neg (pos a) (pos b))
signed_mul false false a b = refl

-- a sum: of unlike signs it has the sign of the larger, of like signs theirs
difference : (a b : ℕ) → b ≤ a → pos (a - b) ≡ pos a -ℤ pos b
difference a zero h = ap pos (omega arith)
difference a (suc b) h = rw (le-ltb a (suc b) h)

pub signed_above : (s t : Bool) (a b : ℕ) → xor s t ≡ true → b ≤ a → signed s (a - b) ≡ signed s a +ℤ signed t b
unfolding signed xor
signed_above true true a b e h = absurd (false≢true e)
signed_above true false a b e h = ap neg_ℤ (difference a b h) ∙ neg_ℤ-+ℤ (pos a) (neg_ℤ (pos b)) ∙ ap (λ z. neg_ℤ (pos a) +ℤ z) (neg_ℤ-neg_ℤ (pos b))
signed_above false true a b e h = difference a b h
signed_above false false a b e h = absurd (false≢true e)

pub signed_under : (s t : Bool) (a b : ℕ) → xor s t ≡ true → a ≤ b → signed t (b - a) ≡ signed s a +ℤ signed t b
signed_under s t a b e h = signed_above t s b a (unlike_comm t s ∙ e) h ∙ +ℤ_comm (signed t b) (signed s a)

pub signed_add : (s t : Bool) (a b : ℕ) → xor s t ≡ false → signed s (a + b) ≡ signed s a +ℤ signed t b
unfolding signed xor
signed_add true true a b e = neg_ℤ-+ℤ (pos a) (pos b)
signed_add true false a b e = absurd (true≢false e)
signed_add false true a b e = absurd (true≢false e)
signed_add false false a b e = refl

pub signed_quot : (s : Bool) (n g : ℕ) → signed s (n / g) ≡ quot_z (signed s n) (pos g)
unfolding signed
signed_quot true zero g = rw (zero-div g)
signed_quot true (suc n) g = refl
signed_quot false n g = refl

pub signed_by_lem : (s t : Bool) (n d : ℕ) → 0 < d → signed (xor s t) n ≡ signed_by (signed s n) (signed t d)
unfolding signed signed_by xor
signed_by_lem s t n zero h = absurd (omega arith)
signed_by_lem true true n (suc d) h = sym (neg_ℤ-neg_ℤ (pos n))
signed_by_lem true false n (suc d) h = refl
signed_by_lem false true n (suc d) h = refl
signed_by_lem false false n (suc d) h = refl

pub signed_less : (s t : Bool) (a b : ℕ) → cond s (cond t (ltb b a) (ltb 0 a || ltb 0 b)) (cond t false (ltb a b)) ≡ lt_z (signed s a) (signed t b)
unfolding signed
signed_less true true zero zero = refl
signed_less true true zero (suc b) = le-ltb (suc b) 0 (omega arith)
signed_less true true (suc a) zero = lt-ltb 0 (suc a) (omega arith)
signed_less true true (suc a) (suc b) = leb-suc-suc (suc b) a
signed_less true false zero b = refl
signed_less true false (suc a) b = rw (lt-ltb 0 (suc a) (omega arith))
signed_less false true a zero = sym (le-ltb a 0 (omega arith))
signed_less false true a (suc b) = refl
signed_less false false a b = refl

-- one more than a number below zero
pub one_up : (k : ℕ) → negsuc k +ℤ pos 1 ≡ neg_ℤ (pos k)
one_up zero = refl
one_up (suc k) = +ℤ_one (negsuc (suc k))
