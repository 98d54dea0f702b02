-- `frames::fetch` meets its contract. Assumes nothing.
use Rattle.state.proofs.Coding.{zero_plain}
use native.Mathlib.Omega.{arith}
use Rattle.state.proofs.Framing.{fetch_far, fetch_push, frame_inside}
use borrow.Author.Rules.{rules}
use Rattle.contexts.proofs.frames.fetch.Goals as goal

pub push_slot-requires : goal.push_slot-requires
push_slot-requires c = (search rules, search (rules, zero_plain))

pub returns-then-j-ge50 : goal.returns-then-j-ge50
returns-then-j-ge50 c = search (rules, fetch_far)

pub get-v-requires : goal.get-v-requires
get-v-requires c =
    omega (arith, c.requires.room, c.requires.cells_fit, c.size.ensures.0, c.if-j-ge50.false, frame_inside _ _ _ c.requires c.get-c.ensures)

pub returns : goal.returns
returns c =
    fetch_push _ c.requires _ _ _ c.if-j-ge50.false c.get-c.ensures (rw c.size.ensures.0 at c.get-v.ensures) c.plain-u.ensures.0 c.push_slot-2.ensures
