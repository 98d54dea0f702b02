use Rattle.passing.proofs.Knowing.{ends_there, past_number, past_operator, sequence_shown}
use Rattle.passing.proofs.known.past.Goals as goal

pub extent-requires : goal.extent-requires
extent-requires c = (sequence_shown _ _ _ c.in-Sequence.is c.form.ensures).0

pub returns-in-Number : goal.returns-in-Number
returns-in-Number c = past_number _ _ _ c.form.ensures _ _ c.in-Number.is

pub returns-in-Operator : goal.returns-in-Operator
returns-in-Operator c = past_operator _ _ _ c.form.ensures _ _ c.in-Operator.is

pub returns-in-Sequence : goal.returns-in-Sequence
returns-in-Sequence c =
    ends_there _ _ (sequence_shown _ _ _ c.in-Sequence.is c.form.ensures).1 c.requires _ c.extent.ensures
