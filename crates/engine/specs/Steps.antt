-- Several steps, and a run, of the bodies pre and body on the table. Assumes nothing.
use Rattle.std.specs.Prelude.{ℕ, ◌+◌, ◌-◌, ◌≤◌, ◌<◌, ◌≡◌, List}
use Rattle.machine.specs.Literal.{Code}
use Rattle.machine.specs.Step.{run}
use Rattle.names.specs.Names.{both}
use Rattle.state.specs.declared.Registers.{Registers}
use Rattle.state.specs.Layout.{aside, abs, Good}

-- at most so many steps
pub record Ran (pre body : List ℕ) (allowance : ℕ) (w : List ℕ) (r : Registers) (w' : List ℕ) (r' : Registers) : Type 0 where
  pub good : Good w' r'
  pub does : abs w' r' ≡ run allowance (both pre body) (abs w r)
  pub keeps : aside w' ≡ aside w
  pub counted : r'.steps ≤ r.steps + allowance

-- some steps, at most so many
pub record Onward (code : Code) (most : ℕ) (w : List ℕ) (r : Registers) (w' : List ℕ) (r' : Registers) : Type 0 where
  pub good : Good w' r'
  pub does : abs w' r' ≡ run (r'.steps - r.steps) code (abs w r)
  pub keeps : aside w' ≡ aside w
  pub some : r.steps < r'.steps
  pub within : r'.steps ≤ r.steps + most
