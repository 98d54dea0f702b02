-- `frames::own` meets its contract. Assumes nothing.
use native.Mathlib.Omega.{arith}
use Rattle.state.proofs.Framing.{own_there, own_made, frame_inside}
use Rattle.contexts.proofs.frames.own.Goals as goal

pub returns-then-from-to : goal.returns-then-from-to
returns-then-from-to c = own_there c.requires _ c.get-c.ensures (omega (arith, c.size-from.ensures.0, c.if-from-to.true))

pub copy_long-requires : goal.copy_long-requires
copy_long-requires c =
    (omega (arith, c.requires.room, c.requires.cells_fit, c.size-from.ensures.0, frame_inside _ _ _ c.requires c.get-c.ensures), omega (arith, c.requires.room, c.requires.cells_fit, c.requires.depth_fits))

pub returns : goal.returns
returns c =
    own_made c.requires _ c.get-c.ensures (λ e. c.if-from-to.false (omega (arith, c.size-from.ensures.0))) _ _ c.last_word-word.ensures.1 (rw c.word.ensures at c.last_word-word.ensures.0) (rw c.size-from.ensures.0 at c.copy_long.ensures) c.put.ensures
