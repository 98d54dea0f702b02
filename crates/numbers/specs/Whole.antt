-- Whole numbers: the one that a sign and a size are, and the two quotients of 2.4.9, rounded down and toward zero.
-- `n / d` of the library is the whole part of n divided by d. Assumes nothing.
use Rattle.std.specs.Prelude.{ℕ, ◌/◌, Bool, true, false, ℤ, pos, negsuc, neg_ℤ, nat_abs}
use Rattle.std.specs.Int.Signed.{quot_z}
use Rattle.numbers.specs.declared.Whole.{Whole}

-- a size with a sign before it
unfoldable pub signed : Bool → ℕ → ℤ
signed true n = neg_ℤ (pos n)
signed false n = pos n

-- the whole number that a `Whole` of the code is
abbrev pub whole_of : Whole → ℤ
whole_of w = signed w.below w.size

-- n where d is not negative, -n where it is: n / d = signed_by n d / |d|
unfoldable pub signed_by : ℤ → ℤ → ℤ
signed_by n (pos d) = n
signed_by n (negsuc d) = neg_ℤ n

-- the greatest whole number that is not above n / d, of a size d of at least 1: -(n + 1) / d rounds down to -(n / d + 1)
unfoldable pub floor_by : ℤ → ℕ → ℤ
floor_by (pos n) d = pos (n / d)
floor_by (negsuc n) d = negsuc (n / d)

-- 000, 2.4.9: "the greatest integer ≤ a", of a = n / d
unfoldable pub floor_quotient : ℤ → ℤ → ℤ
floor_quotient n d = floor_by (signed_by n d) (nat_abs d)

-- 000, 2.4.9: "the integer part of a", of a = n / d
unfoldable pub trunc_quotient : ℤ → ℤ → ℤ
trunc_quotient n d = quot_z (signed_by n d) (pos (nat_abs d))
