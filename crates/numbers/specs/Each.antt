-- What is said of each row of a table. Its proof has a part for each row, so the place and the text of an error name the row that is
-- wrong. Assumes nothing.
use Rattle.std.specs.Prelude.{List, [], ◌∷◌}

infixr 5 ◌&◌
pub data Both (X Y : Type 0) : Type 0 where
  ◌&◌ : X → Y → Both X Y

abbrev pub Each : {A : Type 0} → (A → Type 0) → List A → Type 0
Each P [] = Unit
Each P (a ∷ rest) = Both (P a) (Each P rest)
