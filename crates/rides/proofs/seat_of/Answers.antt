use Rattle.rides.proofs.Riding.{seat_is}
use Rattle.rides.proofs.seat_of.Goals as goal

pub returns : goal.returns
returns c = seat_is _ _ _ _ _ c.requires.0 c.get-c.ensures c.size.ensures.0 c.size-2.ensures.0
