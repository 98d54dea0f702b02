-- 2.4.4. Assumes nothing.
use Rattle.std.specs.Prelude.{ℕ, ltb, Option, Some}
use Rattle.machine.specs.declared.Value.{Value}
use Rattle.machine.specs.declared.FrameOp.{FrameOp}
use Rattle.machine.specs.declared.FrameOp.TheVariants.{Fget, Fset}
use Rattle.machine.specs.declared.Work.TheVariants.{Fetch}
use Rattle.machine.specs.declared.Next.TheVariants.{Works, Store}
use Rattle.machine.specs.declared.Effect.{Effect}
use Rattle.machine.specs.declared.Effect.TheVariants.{Acts}
use Rattle.machine.specs.Limits.{frame_size}
use Rattle.machine.specs.Operand.{as_cardinal, only_if}

unfoldable pub frame_arity : FrameOp → ℕ
frame_arity Fget = 1
frame_arity Fset = 1

-- <j> FGET → <x>; <x> <j> FSET → <>: "unless j < topFrameSize". The engine takes x
unfoldable pub frame_effect : FrameOp → Value → Option Effect
frame_effect Fget x = as_cardinal x (λ j. only_if (ltb j frame_size) (Some (Acts (Works (Fetch j)))))
frame_effect Fset x = as_cardinal x (λ j. only_if (ltb j frame_size) (Some (Acts (Store j))))
