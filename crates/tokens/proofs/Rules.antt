-- A rule for every byte of a text: two parts. Assumes nothing.
use mathlib.Core.Path.{◌≡◌, refl, sym, ap, ◌∙◌}
use mathlib.Core.Bool.{Bool, true, ◌&&◌, and_assoc}
use mathlib.Core.List.{List, [], ◌∷◌, ◌++◌}
use Prim.Native.Nat.{ℕ}
use Rattle.tokens.specs.declared.Rule.{Rule}
use Rattle.tokens.specs.declared.Rule.TheVariants.{Anything}
use Rattle.tokens.specs.Text.{obeys, every}

pub every_append : (r : Rule) (d e : List ℕ) → every r (d ++ e) ≡ every r d && every r e
unfolding every
every_append r [] e = refl
every_append r (b ∷ d) e = ap (λ (t : Bool). obeys r b && t) (every_append r d e) ∙ sym (and_assoc (obeys r b) (every r d) (every r e))

pub every_anything : (d : List ℕ) → every Anything d ≡ true
unfolding every obeys
every_anything [] = refl
every_anything (b ∷ d) = every_anything d
