-- `stack::push_two` meets its contract. Assumes nothing.
use Rattle.state.proofs.Stacking.{two_as}
use Rattle.state.proofs.stack.push_two.Goals as goal

pub push_slots-requires : goal.push_slots-requires
push_slots-requires c = (c.requires, c.number_slot-x.ensures.1, c.number_slot-y.ensures.1)

pub returns : goal.returns
returns c = two_as _ _ _ _ c.number_slot-x.ensures.0 c.number_slot-y.ensures.0 c.push_slots.ensures
