-- The greatest common divisor, by Euclid's rule. That it divides both and that no larger number does is in proofs/Theorems.antt.
-- Assumes nothing.
use Rattle.std.specs.Prelude.{ℕ, zero, suc, ◌%◌}

-- at most k turns of Euclid's rule; k = b turns are always enough
unfoldable pub gcd_turns : ℕ → ℕ → ℕ → ℕ
gcd_turns zero a b = a
gcd_turns (suc k) a zero = a
gcd_turns (suc k) a (suc b) = gcd_turns k (suc b) (a % suc b)

unfoldable pub gcd_of : ℕ → ℕ → ℕ
gcd_of a b = gcd_turns b a b
