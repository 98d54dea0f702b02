-- Quotients of sizes with signs, rounded down and toward zero. In order: x - y k by sign and size; the quotient of n + 1; the
-- quotient rounded down, where it is exact and where it is not; what the two quotients leave of x; the floor is the greatest
-- whole number that is not above the fraction; a size rounded up, as the code does it. Assumes nothing.
use mathlib.Core.Path.{◌≡◌, refl, sym, ap, ◌∙◌}
use mathlib.Core.Bool.{Bool, true, false, not, xor, false≢true}
use Prim.Native.Nat.{ℕ, zero, suc, ◌+◌, ◌-◌, ◌*◌, ◌/◌, ◌%◌, ◌<◌, ◌≤◌}
use native.Mathlib.Nat.{zero-div, zero-mod, mod_def, mul-div-le, mod-lt, mod-add-div', div-add-mod, mul-suc, suc-mul, add-mul, add-sub_cancel, div-eq_of_lt-le, lt-div-mul-add, div-mul-le_self}
use native.Mathlib.Numerals.{add-one}
use native.Mathlib.Omega.{arith}
use lib.Dec.{le→leb, lt→ltb}
use lib.IntN.{ℤ, pos, negsuc, neg_ℤ, ◌+ℤ◌, ◌-ℤ◌, ◌*ℤ◌, zero-*ℤ, +ℤ_idr}
use lib.Signed.{◌≤ℤ◌, ◌<ℤ◌}
use Rattle.numbers.specs.Whole.{signed, floor_by, floor_quotient, trunc_quotient}
use Rattle.numbers.proofs.Signs.{abs_signed, signed_not, signed_mul, signed_by_lem, signed_quot, signed_above, signed_under, unlike_not, unlike_twice, other, neg_mul, one_up}

-- x - y k, of a k with the sign of x / y
module _ (s t : Bool) (x y k : ℕ) where
  minus_times : signed s x +ℤ signed (not s) (y * k) ≡ signed s x -ℤ signed t y *ℤ signed (xor s t) k
  minus_times = ap (λ z. signed s x +ℤ z) (signed_not s (y * k) ∙ ap neg_ℤ (ap (λ u. signed u (y * k)) (sym (unlike_twice s t)) ∙ signed_mul t (xor s t) y k))

  rest_above : y * k ≤ x → signed s (x - y * k) ≡ signed s x -ℤ signed t y *ℤ signed (xor s t) k
  rest_above h = signed_above s (not s) x (y * k) (unlike_not s) h ∙ minus_times

  rest_under : x ≤ y * k → signed (not s) (y * k - x) ≡ signed s x -ℤ signed t y *ℤ signed (xor s t) k
  rest_under h = signed_under s (not s) x (y * k) (unlike_not s) h ∙ minus_times

-- (n + 1) / y is n / y, and 1 more where y divides n + 1
module _ (n y : ℕ) (h : 0 < y) where
  next_exact : suc n % y ≡ 0 → suc (n / y) ≡ suc n / y
  next_exact e = by (suc n / y) (omega (arith, mod-add-div' (suc n) y))
    where
      by : (k : ℕ) → k * y ≡ suc n → suc (n / y) ≡ k
      by zero f = absurd (omega (arith, f))
      by (suc j) f = ap suc (div-eq_of_lt-le {k = j} y (omega (arith, suc-mul j y)) (omega (arith, suc-mul j y, ap (λ m. m * y) (add-one j))))

  next_inside : 0 < suc n % y → n / y ≡ suc n / y
  next_inside e =
      let k = suc n / y in
      let f : (k + 1) * y ≡ k * y + y = ap (λ m. m * y) (add-one k) ∙ suc-mul k y in
      div-eq_of_lt-le {k = k} y (omega (arith, mod-add-div' (suc n) y)) (omega (arith, mod-add-div' (suc n) y, mod-lt (suc n) h))

-- the quotient rounded down by sign and size
floor_exact : (u : Bool) (x y : ℕ) → 0 < y → x % y ≡ 0 → floor_by (signed u x) y ≡ signed u (x / y)
unfolding floor_by signed
floor_exact true zero y h e = rw (zero-div y)
floor_exact true (suc x) y h e = ap (λ k. neg_ℤ (pos k)) (next_exact x y h e)
floor_exact false x y h e = refl

floor_inside : (u : Bool) (x y : ℕ) → 0 < y → 0 < x % y → u ≡ true → floor_by (signed u x) y ≡ signed u (suc (x / y))
unfolding floor_by signed
floor_inside true zero y h e i = absurd (omega (arith, zero-mod y))
floor_inside true (suc x) y h e i = ap negsuc (next_inside x y h e)
floor_inside false x y h e i = absurd (false≢true i)

signed_zero : (s : Bool) → signed s 0 ≡ pos 0
unfolding signed
signed_zero true = refl
signed_zero false = refl

-- of y = 0, x is left
pub zero_rest : (s t : Bool) (x y : ℕ) (q : ℤ) → y ≡ 0 → signed s x ≡ signed s x -ℤ signed t y *ℤ q
zero_rest s t x y q e = sym (ap (λ z. signed s x -ℤ z) (ap (λ z. z *ℤ q) (ap (signed t) e ∙ signed_zero t) ∙ zero-*ℤ q) ∙ +ℤ_idr (signed s x))

-- what is left of x after y times the quotient, of the two roundings
module _ (s t : Bool) (x y : ℕ) (h : 0 < y) where
  trunc_signed : signed (xor s t) (x / y) ≡ trunc_quotient (signed s x) (signed t y)
  unfolding trunc_quotient
  trunc_signed = rw (abs_signed t y, ← signed_by_lem s t x y h) (signed_quot (xor s t) x y)

  floor_signed : floor_by (signed (xor s t) x) y ≡ floor_quotient (signed s x) (signed t y)
  unfolding floor_quotient
  floor_signed = rw (abs_signed t y, ← signed_by_lem s t x y h)

  left : (q : ℤ) → signed (xor s t) (x / y) ≡ q → signed s (x % y) ≡ signed s x -ℤ signed t y *ℤ q
  left q e = ap (signed s) (mod_def x y) ∙ rest_above s t x y (x / y) (mul-div-le x y) ∙ ap (λ z. signed s x -ℤ signed t y *ℤ z) e

  pub trunc_rest : signed s (x % y) ≡ signed s x -ℤ signed t y *ℤ trunc_quotient (signed s x) (signed t y)
  trunc_rest = left _ trunc_signed

  pub floor_rest_exact : x % y ≡ 0 → pos 0 ≡ signed s x -ℤ signed t y *ℤ floor_quotient (signed s x) (signed t y)
  floor_rest_exact e = sym (ap (signed s) e ∙ signed_zero s) ∙ left _ (sym (floor_exact (xor s t) x y h e) ∙ floor_signed)

  pub floor_rest_like : xor s t ≡ false → signed s (x % y) ≡ signed s x -ℤ signed t y *ℤ floor_quotient (signed s x) (signed t y)
  unfolding floor_by signed
  floor_rest_like e = left _ (rw e refl ∙ floor_signed)

  pub floor_rest_unlike : xor s t ≡ true → 0 < x % y → signed t (y - x % y) ≡ signed s x -ℤ signed t y *ℤ floor_quotient (signed s x) (signed t y)
  floor_rest_unlike e f =
      let k = x / y in
      let q : signed (xor s t) (suc k) ≡ floor_quotient (signed s x) (signed t y) = sym (floor_inside (xor s t) x y h f e) ∙ floor_signed in
      let m : y * suc k ≡ y * k + y = mul-suc y k in
      let d : y - x % y ≡ y * suc k - x = omega (arith, div-add-mod x y, mod-lt x h) in
      ap (signed t) d ∙ ap (λ u. signed u (y * suc k - x)) (sym (other s t e)) ∙ rest_under s t x y (suc k) (omega (arith, div-add-mod x y, mod-lt x h)) ∙ ap (λ z. signed s x -ℤ signed t y *ℤ z) q

-- the greatest whole number that is not above n / d
below_le : (m n : ℕ) → suc n ≤ m → neg_ℤ (pos m) ≤ℤ negsuc n
below_le zero n h = absurd (omega arith)
below_le (suc m) n h = record { le = le→leb n m (omega arith) }

below_lt : (m n : ℕ) → m ≤ n → negsuc n <ℤ neg_ℤ (pos m)
below_lt zero n h = record { lt = tt }
below_lt (suc m) n h = record { lt = lt→ltb m n (omega arith) }

pub floor_below : (n : ℤ) (d : ℕ) → 0 < d → (floor_by n d *ℤ pos d) ≤ℤ n
unfolding floor_by
floor_below (pos n) d h = record { le = le→leb (n / d * d) n (div-mul-le_self n d) }
floor_below (negsuc n) d h = below_le (suc (n / d) * d) n (omega (arith, suc-mul (n / d) d, lt-div-mul-add {a = n} h))

pub floor_greatest : (n : ℤ) (d : ℕ) → 0 < d → n <ℤ ((floor_by n d +ℤ pos 1) *ℤ pos d)
unfolding floor_by
floor_greatest (pos n) d h = record { lt = lt→ltb n ((n / d + 1) * d) (omega (arith, add-mul (n / d) 1 d, lt-div-mul-add {a = n} h)) }
floor_greatest (negsuc n) d h = rw (one_up (n / d), neg_mul (pos (n / d)) (pos d)) (below_lt (n / d * d) n (div-mul-le_self n d))

-- minus the floor of -n / d, as the code rounds a size up
pub above_zero : (n d : ℕ) → n ≡ 0 → neg_ℤ (pos 0) ≡ floor_by (neg_ℤ (pos n)) d
unfolding floor_by
above_zero n d e = rw (e, zero-div d)

pub above_next : (n d k : ℕ) → 0 < n → k ≡ (n - 1) / d → neg_ℤ (pos (k + 1)) ≡ floor_by (neg_ℤ (pos n)) d
unfolding floor_by
above_next zero d k h e = absurd (omega arith)
above_next (suc n) d k h e = rw (add-one k, e, ap (λ m. m - 1) (sym (add-one n)) ∙ add-sub_cancel n 1)
