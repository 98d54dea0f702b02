use Rattle.sprints.proofs.Rows.{Rolling}
use Rattle.sprints.specs.Swift.{LiteralsLeft}
use Rattle.sprints.proofs.row.Given as goal

abbrev pub invariant-loop-left : goal.invariant-loop-left
invariant-loop-left l = Rolling l.b l.at l.most l.clear l.initial.w l.initial.r l.w l.r l.p l.left × LiteralsLeft l.b l.p l.end

abbrev pub decreases-loop-left : goal.decreases-loop-left
decreases-loop-left l = l.left
