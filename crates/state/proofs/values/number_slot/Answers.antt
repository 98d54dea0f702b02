-- `values::number_slot` meets its contract. Assumes nothing.
use Rattle.state.proofs.Coding.{number_back}
use Rattle.state.proofs.values.number_slot.Goals as goal

pub returns : goal.returns
returns c = number_back c.args.a _ c.struct_told-1.given.0.1 c.to_word.ensures
