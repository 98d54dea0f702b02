-- The header test is std's. Assumes nothing.
use mathlib.Core.Path.{◌≡◌, refl, ap}
use mathlib.Core.Bool.{Bool, ◌&&◌}
use mathlib.Core.List.{List, [], ◌∷◌}
use Prim.Native.Nat.{ℕ}
use lib.Dec.{eqb}
use lib.ListN.{length, take}
use lib.Pointwise.{pointwise}
use Rattle.tokens.specs.Format.{starts}

pub front : (h s : List ℕ) → pointwise eqb h (take (length h) s) ≡ starts h s
unfolding starts
front [] s = refl
front (b ∷ h) [] = refl
front (b ∷ h) (c ∷ s) = ap (λ (t : Bool). eqb b c && t) (front h s)
