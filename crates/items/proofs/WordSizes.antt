-- A word as a signed number, and its size. Assumes nothing.
use mathlib.Core.Path.{◌≡◌, sym, ap, ◌∙◌}
use mathlib.Core.Bool.{Bool}
use Prim.Native.Nat.{ℕ, suc, ◌-◌, ◌<◌, ◌≤◌}
use native.Mathlib.Omega.{arith}
use lib.IntN.{pos, negsuc}
use lib.Signed.{mag}
use mir.Syntax.{w32}
use mir.Val.{to_z, sel}
use borrow.Author.Tests.{lt-ltb, le-ltb}

pub low : (a : ℕ) → a < 2147483648 → to_z w32 a ≡ pos a
low a h = ap (λ (b : Bool). sel b (pos a) (negsuc (4294967296 - suc a))) (lt-ltb a 2147483648 h)

pub high : (a : ℕ) → 2147483648 ≤ a → to_z w32 a ≡ negsuc (4294967296 - suc a)
high a h = ap (λ (b : Bool). sel b (pos a) (negsuc (4294967296 - suc a))) (le-ltb a 2147483648 h)

pub mag_low : (a : ℕ) → a < 2147483648 → a ≡ mag (to_z w32 a)
mag_low a h = sym (ap mag (low a h))

pub mag_high : (a : ℕ) → 2147483648 ≤ a → a < 4294967296 → 4294967295 - a ≡ mag (to_z w32 a)
mag_high a h k = let e : 4294967295 - a ≡ 4294967296 - suc a = omega arith in e ∙ sym (ap mag (high a h))
