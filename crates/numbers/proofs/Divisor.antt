-- The greatest common divisor. In order: as many turns of Euclid's rule as b are enough, and one turn of it; it is not 0; it divides
-- both numbers, and every common divisor divides it; what is left of the two numbers when they are divided by it. Assumes nothing.
use mathlib.Core.Path.{◌≡◌, refl, sym, ap, ◌∙◌}
use Prim.Native.Nat.{ℕ, zero, suc, ◌+◌, ◌-◌, ◌*◌, ◌/◌, ◌%◌, ◌<◌, ◌≤◌}
use native.Mathlib.Nat.{le_refl, mod-lt, one-mul, zero-mul, add-mul, mul_assoc, div-add-mod', mul_comm, mul-zero, suc-mul, mul-sub, mod-eq-sub-div-mul, mul-div_cancel, eq_of_mul-eq-mul_right}
use native.Mathlib.Omega.{arith}
use Rattle.numbers.specs.Gcd.{gcd_turns, gcd_of}

rem_le : (a b k : ℕ) → suc b ≤ suc k → a % suc b ≤ k
rem_le a b k h = omega (arith, mod-lt a {m = suc b} (omega arith))

turns : (k l a b : ℕ) → b ≤ k → b ≤ l → gcd_turns k a b ≡ gcd_turns l a b
unfolding gcd_turns
turns zero zero a b hk hl = refl
turns zero (suc l) a zero hk hl = refl
turns zero (suc l) a (suc b) hk hl = absurd (omega arith)
turns (suc k) zero a zero hk hl = refl
turns (suc k) zero a (suc b) hk hl = absurd (omega arith)
turns (suc k) (suc l) a zero hk hl = refl
turns (suc k) (suc l) a (suc b) hk hl = turns k l (suc b) (a % suc b) (rem_le a b k hk) (rem_le a b l hl)

pub gcd_zero : (a b : ℕ) → b ≡ 0 → a ≡ gcd_of a b
unfolding gcd_of gcd_turns
gcd_zero a b h = rw h

pub gcd_turn : (a b : ℕ) → 0 < b → gcd_of b (a % b) ≡ gcd_of a b
unfolding gcd_of gcd_turns
gcd_turn a zero h = absurd (omega arith)
gcd_turn a (suc b) h = turns (a % suc b) b (suc b) (a % suc b) (le_refl (a % suc b)) (rem_le a b b (le_refl (suc b)))

-- 1 divides everything, and no more of it does
pub gcd_one : (a : ℕ) → gcd_of a 1 ≡ 1
unfolding gcd_of gcd_turns
gcd_one a = refl

positive : (k a b : ℕ) → b ≤ k → 0 < a + b → 0 < gcd_turns k a b
unfolding gcd_turns
positive zero a b hk h = omega arith
positive (suc k) a zero hk h = omega arith
positive (suc k) a (suc b) hk h = positive k (suc b) (a % suc b) (rem_le a b k hk) (omega arith)

pub gcd_pos : (a b : ℕ) → 0 < b → 0 < gcd_of a b
unfolding gcd_of
gcd_pos a b h = positive b a b (le_refl b) (omega arith)

-- d divides n
abbrev pub Divides : ℕ → ℕ → Type 0
Divides d n = (q : ℕ) × (n ≡ q * d)

divides_self : (a : ℕ) → Divides a a
divides_self a = (1, sym (one-mul a))

divides_zero : (a b : ℕ) → b ≤ 0 → Divides a b
divides_zero a b h = (0, omega (arith, zero-mul a))

divides_whole : (a b g : ℕ) → Divides g b → Divides g (a % b) → Divides g a
divides_whole a b g (p, e) (q, f) = (a / b * p + q, sym (add-mul (a / b * p) q g ∙ rw (mul_assoc (a / b) p g, ← e, ← f) (div-add-mod' a b)))

sub_mul : (x y d : ℕ) → (x - y) * d ≡ x * d - y * d
sub_mul x y d = mul_comm (x - y) d ∙ mul-sub d x y ∙ rw (mul_comm d x, mul_comm d y)

divides_rest : (a b d : ℕ) → Divides d a → Divides d b → Divides d (a % b)
divides_rest a b d (p, e) (q, f) = (p - a / b * q, mod-eq-sub-div-mul a b ∙ sym (sub_mul p (a / b * q) d ∙ rw (mul_assoc (a / b) q d, ← f, ← e)))

divides_both : (k a b : ℕ) → b ≤ k → Divides (gcd_turns k a b) a × Divides (gcd_turns k a b) b
unfolding gcd_turns
divides_both zero a b h = (divides_self a, divides_zero a b h)
divides_both (suc k) a zero h = (divides_self a, divides_zero a 0 (le_refl 0))
divides_both (suc k) a (suc b) h =
    let i = divides_both k (suc b) (a % suc b) (rem_le a b k h) in
    (divides_whole a (suc b) _ i.0 i.1, i.0)

pub divides_left : (a b : ℕ) → Divides (gcd_of a b) a
unfolding gcd_of
divides_left a b = (divides_both b a b (le_refl b)).0

pub divides_right : (a b : ℕ) → Divides (gcd_of a b) b
unfolding gcd_of
divides_right a b = (divides_both b a b (le_refl b)).1

greatest : (d k a b : ℕ) → Divides d a → Divides d b → Divides d (gcd_turns k a b)
unfolding gcd_turns
greatest d zero a b x y = x
greatest d (suc k) a zero x y = x
greatest d (suc k) a (suc b) x y = greatest d k (suc b) (a % suc b) y (divides_rest a (suc b) d x y)

pub divides_gcd : (a b d : ℕ) → Divides d a → Divides d b → Divides d (gcd_of a b)
unfolding gcd_of
divides_gcd a b d x y = greatest d b a b x y

-- of two numbers divided by their greatest common divisor it is 1
exact : (g n : ℕ) → 0 < g → Divides g n → n ≡ n / g * g
exact g n h (q, e) = e ∙ ap (λ k. k * g) (sym (mul-div_cancel q h) ∙ ap (λ m. m / g) (sym e))

one_factor : (p h : ℕ) → p * h ≡ 1 → h ≡ 1
one_factor zero h e = absurd (omega (arith, zero-mul h))
one_factor (suc p) zero e = absurd (omega (arith, mul-zero (suc p)))
one_factor (suc p) (suc h) e = omega (arith, suc-mul p (suc h))

divides_times : (k g m n : ℕ) → n ≡ m * g → Divides k m → Divides (k * g) n
divides_times k g m n e (q, f) = (q, e ∙ ap (λ z. z * g) f ∙ mul_assoc q k g)

divides_part : (k g : ℕ) → 0 < g → Divides (k * g) g → k ≡ 1
divides_part k g h (q, e) = one_factor q k (eq_of_mul-eq-mul_right g h (q * k) 1 (mul_assoc q k g ∙ sym e ∙ sym (one-mul g)))

module _ (a b : ℕ) (h : 0 < b) where
  pub left_exact : a ≡ a / gcd_of a b * gcd_of a b
  left_exact = exact (gcd_of a b) a (gcd_pos a b h) (divides_left a b)

  pub right_exact : b ≡ b / gcd_of a b * gcd_of a b
  right_exact = exact (gcd_of a b) b (gcd_pos a b h) (divides_right a b)

  pub lowest_terms : gcd_of (a / gcd_of a b) (b / gcd_of a b) ≡ 1
  lowest_terms =
      let g = gcd_of a b in
      let k = gcd_of (a / g) (b / g) in
      divides_part k g (gcd_pos a b h) (divides_gcd a b (k * g)
      (divides_times k g (a / g) a left_exact (divides_left (a / g) (b / g)))
      (divides_times k g (b / g) b right_exact (divides_right (a / g) (b / g))))
