-- What it is to be a number: inside the limits and in lowest terms. Assumes nothing.
use Rattle.std.proofs.Common.{◌≡◌, ◌≤◌, true, ◌&&◌, eqb, leb, nat_abs, eqb-true, leb-true}
use Rattle.numbers.specs.declared.Number.{Number}
use Rattle.numbers.specs.Gcd.{gcd_of}
use Rattle.numbers.specs.Fraction.{most, is_fraction, is_number}
use Rattle.numbers.proofs.Cond.{both}

pub record Limits (a : Number) : Type 0 where
  pub small : nat_abs a.num ≤ 2147483647
  pub some : 1 ≤ a.den
  pub below : a.den ≤ 2147483647
  pub lowest : gcd_of (nat_abs a.num) a.den ≡ 1

pub number_limits : (a : Number) → is_number a ≡ true → Limits a
unfolding is_fraction
number_limits a h =
    let n = nat_abs a.num in
    let d = a.den in
    let p = both (leb n most) (leb 1 d && (leb d most && eqb (gcd_of n d) 1)) h in
    let q = both (leb 1 d) (leb d most && eqb (gcd_of n d) 1) p.1 in
    let r = both (leb d most) (eqb (gcd_of n d) 1) q.1 in
    record { small = leb-true n most p.0; some = leb-true 1 d q.0; below = leb-true d most r.0; lowest = eqb-true (gcd_of n d) 1 r.1 }
