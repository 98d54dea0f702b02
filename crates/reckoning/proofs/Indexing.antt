-- GET's test of its index: an index j between l and the end m. Assumes nothing.
use mathlib.Core.Path.{◌≡◌}
use mathlib.Core.Bool.{true, false, ◌&&◌}
use Prim.Native.Nat.{ℕ, ◌≤◌, ◌<◌}
use borrow.Author.Tests.{le-leb, lt-leb, lt-ltb, le-ltb}
use lib.Dec.{leb, ltb}

module _ (l j m : ℕ) where
  pub too_low : j < l → leb l j && ltb j m ≡ false
  too_low h = rw (lt-leb l j h)

  pub too_high : l ≤ j → m ≤ j → leb l j && ltb j m ≡ false
  too_high h k = rw (le-leb l j h, le-ltb j m k)

  pub in_bounds : l ≤ j → j < m → leb l j && ltb j m ≡ true
  in_bounds h k = rw (le-leb l j h, lt-ltb j m k)
