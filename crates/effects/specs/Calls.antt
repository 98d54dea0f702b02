-- The body of an operator that is called. Assumes nothing.
use Rattle.std.specs.Prelude.{ℕ, ◌+◌, ◌≡◌, ◌&&◌, leb, length, Option, Some, is_some}
use Rattle.machine.specs.Limits.{frame_size}
use Rattle.machine.specs.Skeleton.{solid}
use Rattle.machine.specs.Literal.{Code, bytes_of}
use Rattle.effects.specs.declared.Callee.{Callee}

-- where there are so many cells, the operator's kept frame and its body are there, or not; its body's literals and its end
pub record Enters (code : Code) (used origin start len first : ℕ) (k : Option Callee) : Type 0 where
  pub there : is_some k ≡ leb (first + frame_size) used && leb (start + len) (length (bytes_of code origin))
  pub at : (c : Callee) → k ≡ Some c → c.at ≡ solid (bytes_of code origin) start
  pub end : (c : Callee) → k ≡ Some c → c.end ≡ start + len
