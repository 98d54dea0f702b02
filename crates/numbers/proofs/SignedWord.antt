-- A signed word as its bits, `to_z w (of_z w z)` for z. Assumes nothing.
use mathlib.Core.Path.{◌≡◌, ap}
use Prim.Native.Nat.{◌<◌}
use lib.IntN.{ℤ}
use lib.Signed.{mag}
use mir.Syntax.{w32}
use mir.Val.{to_z, of_z}
use mir.Facts.{to_z-of_z}

-- the numerator of a number, passed on
pub passed : (z : ℤ) → mag z < 2147483648 → of_z w32 (to_z w32 (of_z w32 z)) ≡ of_z w32 z
passed z h = let e : to_z w32 (of_z w32 z) ≡ z = to_z-of_z {w = w32} (record { sfits = h }) in ap (of_z w32) e
