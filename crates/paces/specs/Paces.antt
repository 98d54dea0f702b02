-- One step of the bodies pre and body on the table. Assumes nothing.
use Rattle.std.specs.Prelude.{ℕ, ◌+◌, ◌<◌, ◌≡◌, List}
use Rattle.machine.specs.declared.Literal.{Literal}
use Rattle.machine.specs.declared.Literal.TheVariants.{Figure, Name, Text, Plain, WithBody}
use Rattle.machine.specs.Step.{step}
use Rattle.names.specs.Names.{both}
use Rattle.state.specs.declared.Registers.{Registers}
use Rattle.state.specs.Layout.{aside, abs, Good}

-- a held body's end is a word
abbrev pub SizedLiteral : Literal → Type 0
SizedLiteral (Figure a) = Unit
SizedLiteral (Name start len) = Unit
SizedLiteral (Text start) = Unit
SizedLiteral (Plain n) = Unit
SizedLiteral (WithBody n start len) = start + len < 4294967296

-- one step
pub record Stepped (pre body w : List ℕ) (r : Registers) (w' : List ℕ) (r' : Registers) : Type 0 where
  pub good : Good w' r'
  pub does : abs w' r' ≡ step (both pre body) (abs w r)
  pub keeps : aside w' ≡ aside w
  pub counted : r'.steps ≡ r.steps + 1
