-- A row of literals and the step that ends it. In order: a body gone on in; a step; several; a body passed over. Assumes nothing.
use Rattle.std.specs.Prelude.{Ok, ⊤, ℕ, ◌+◌, ◌-◌, ◌≤◌, ◌<◌, ◌≡◌, false, List, [], ◌∷◌}
use types.Run.{OneOf}
use Rattle.machine.specs.declared.Literal.{Literal}
use Rattle.machine.specs.Limits.{most_open}
use Rattle.machine.specs.Skeleton.{body_at}
use Rattle.machine.specs.Literal.{Code}
use Rattle.machine.specs.Contexts.{settle}
use Rattle.machine.specs.Step.{execute, executed, begun, run}
use Rattle.state.specs.declared.Registers.{Registers}
use Rattle.state.specs.Layout.{aside, abs, Good}
use Rattle.sprints.specs.Swift.{ahead, Executes}
use Rattle.rides.specs.declared.Further.{Further}
use Rattle.rides.specs.declared.Ridden.{Ridden}
use Rattle.rides.specs.declared.Ridden.TheVariants.{Due, On}

-- the registers that steps have come to, and what is said of the literal that is due
abbrev pub ridden : Ridden → Registers
ridden (Due p) = p
ridden (On p) = p

abbrev pub IfDue : Ridden → Type 0 → Type 0
IfDue (Due p) P = P
IfDue (On p) P = ⊤

abbrev pub IfOn : Ridden → Type 0 → Type 0
IfOn (Due p) P = ⊤
IfOn (On p) P = P

-- the running body goes on at p, and bodies that have ended are left; due: one is left that runs, and nothing is skipped
pub record Alighted (p : ℕ) (w : List ℕ) (r : Registers) (w' : List ℕ) (x : Ridden) : Type 0 where
  pub good : Good w' (ridden x)
  pub does : abs w' (ridden x) ≡ settle (ahead p r.steps (abs w r))
  pub keeps : aside w' ≡ aside w
  pub counted : (ridden x).steps ≡ r.steps
  pub runs : IfDue x (0 < (ridden x).depth)
  pub on : IfDue x ((ridden x).skipping ≡ false)

-- a step with the literal x, after which the body goes on at m
pub record Paced (code : Code) (x : Literal) (m : ℕ) (w : List ℕ) (r : Registers) (w' : List ℕ) (r' : Registers) : Type 0 where
  pub good : Good w' r'
  pub does : abs w' r' ≡ executed (begun m (abs w r)) (execute code x (begun m (abs w r)))
  pub keeps : aside w' ≡ aside w
  pub counted : r'.steps ≡ r.steps + 1

-- some steps, at most so many; due: then there is room for one more, and its literal is not passed over
pub record Led (code : Code) (most : ℕ) (w : List ℕ) (r : Registers) (w' : List ℕ) (x : Ridden) : Type 0 where
  pub good : Good w' (ridden x)
  pub does : run ((ridden x).steps - r.steps) code (abs w r) ≡ abs w' (ridden x)
  pub keeps : aside w' ≡ aside w
  pub since : r.steps ≤ (ridden x).steps
  pub within : (ridden x).steps ≤ r.steps + most
  pub some : IfOn x (r.steps < (ridden x).steps)
  pub more : IfDue x ((ridden x).steps < r.steps + most)
  pub runs : IfDue x (0 < (ridden x).depth)
  pub executes : IfDue x (Executes code (abs w' (ridden x)))

-- a row of the bytes b that has come to `at`, with so many steps left, gone on past the operator there and the body that it passes over, or not
pub record PastHeld (b : List ℕ) (number next at left : ℕ) (u : Further) : Type 0 where
  pub fewer : u.left ≤ left
  pub stays : u.left ≡ left → u.at ≡ at
  pub passes : u.left < left → OneOf (110 ∷ 240 ∷ []) number × (u.left + 1 ≡ left) × (body_at most_open b next ≡ Ok u.at)
