-- `reading::bare_operator` meets its contract. Assumes nothing.
use Rattle.literals.proofs.Passing.{bare_there}
use Rattle.literals.proofs.reading.bare_operator.Goals as goal

pub returns : goal.returns
returns c =
    let o = c.in-Some-Operator in bare_there _ _ _ _ _ _ _ o.ensures o.field-0-is c.role_of.ensures c.in-Plain.is c.past_comments.ensures
