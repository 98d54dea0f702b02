use Rattle.spans.proofs.SpanTurns.{Where}
use Rattle.spans.specs.Memo.{Noted}
use lib.ListN.{length}
use Prim.Native.Nat.{◌-◌}
use mathlib.Core.Path.{◌≡◌}
use Rattle.spans.proofs.pass.Given as goal

abbrev pub invariant-loop-p : goal.invariant-loop-p
invariant-loop-p l = Where l.s l.starts l.at l.count l.p × Noted l.s l.memo × (length l.memo ≡ length l.initial.memo)

abbrev pub decreases-loop-p : goal.decreases-loop-p
decreases-loop-p l = length l.s - l.p
