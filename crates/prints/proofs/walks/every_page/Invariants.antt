use Prim.Native.Nat.{◌+◌, ◌-◌}
use Rattle.prints.proofs.Walking.{Walked}
use Rattle.prints.proofs.walks.every_page.Given as goal

abbrev pub invariant-loop-n : goal.invariant-loop-n
invariant-loop-n l = Walked l.s l.places l.last l.used l.allowance l.initial.w l.initial.rows l.w l.rows l.n

abbrev pub decreases-loop-n : goal.decreases-loop-n
decreases-loop-n l = l.last + 1 - l.n
