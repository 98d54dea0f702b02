-- `number_item` meets its contract. Assumes nothing.
use borrow.Author.Tests.{eq-eqb, ne_eqb}
use Rattle.items.proofs.Judging.{judged_left, judged_right, judged_yes, fraction_is, number_here}
use Rattle.items.proofs.number_item.Goals as goal
use Rattle.items.proofs.number_item.Goals.{else-c-eq0-via-then-c-eq0+else-is_fraction, else-c-eq0-via-else-c-eq0}

pub returns-then-is_fraction : goal.returns-then-is_fraction
returns-then-is_fraction c =
    λ x. judged_yes x _ _ _ _ (eq-eqb _ _ c.if-c-eq0.true) (fraction_is c.args.a c.args.b _ _ c.size_of_word.ensures c.is_fraction.ensures)
    c.if-is_fraction.true (number_here x _ _)

pub returns : goal.returns
returns c =
    λ x. elim c.else-c-eq0.branch [
      | else-c-eq0-via-then-c-eq0+else-is_fraction w ↦ judged_right x _ _ _ (fraction_is c.args.a c.args.b _ _ w.size_of_word.ensures w.is_fraction.ensures)
          w.if-is_fraction.false
      | else-c-eq0-via-else-c-eq0 w ↦ judged_left x _ _ (ne_eqb _ _ w.if-c-eq0.false)
    ]
