-- `operator_item` meets its contract. Assumes nothing.
use Rattle.numbers.proofs.Cond.{no_left, no_right}
use Rattle.items.proofs.Judging.{judged_left, operator_large, operator_here}
use Rattle.items.specs.Tokens.{operator}
use lib.Dec.{eqb}
use borrow.Author.Tests.{ne_eqb}
use Rattle.items.proofs.operator_item.Goals as goal
use Rattle.items.proofs.operator_item.Goals.{then-b-ne0-via-then-b-ne0, then-b-ne0-via-else-b-ne0+then-c-ne0}
use Rattle.items.proofs.operator_item.Goals.{then-b-ne0-via-else-b-ne0+else-c-ne0+then-a-gt8191}

pub returns-then-b-ne0 : goal.returns-then-b-ne0
returns-then-b-ne0 c =
    λ x. elim c.then-b-ne0.branch [
      | then-b-ne0-via-then-b-ne0 w ↦ judged_left x _ _ (no_left _ _ (ne_eqb _ _ w.if-b-ne0.true))
      | then-b-ne0-via-else-b-ne0+then-c-ne0 w ↦ judged_left x _ (operator c.args.a) (no_right (eqb c.args.b 0) _ (ne_eqb _ _ w.if-c-ne0.true))
      | then-b-ne0-via-else-b-ne0+else-c-ne0+then-a-gt8191 w ↦ operator_large x _ c.args.b c.args.c w.if-a-gt8191.true
    ]

pub returns : goal.returns
returns c = λ x. operator_here x _ _ _ c.if-a-gt8191.false c.if-b-ne0.false c.if-c-ne0.false
