-- `literal` meets its contract. Assumes nothing.
use mathlib.Core.Path.{refl}
use Rattle.origins.proofs.ByOrigin.{due_fits}
use Rattle.paces.proofs.Pacing.{sized_due}
use Rattle.sprints.proofs.Swiftly.{attempted, found_due}
use Rattle.paces.proofs.Pacing.{bytes_fit}
use Rattle.paces.proofs.literal.Goals as goal

pub word-requires : goal.word-requires
word-requires c = due_fits _ _ _ (bytes_fit _ _ _ c.requires.0 c.requires.1) c.due_of-d.ensures.0

pub execute-requires : goal.execute-requires
execute-requires c =
    (c.begin-q.ensures.busy, c.requires.1, sized_due _ _ _ (bytes_fit _ _ _ c.requires.0 c.requires.1) c.due_of-d.ensures.0)

pub returns : goal.returns
returns c =
    (attempted c.requires.0 _ _ c.word.ensures c.begin-q.ensures _ (found_due _ _ _ c.due_of-d.ensures.0 refl) c.execute.ensures, c.due_of-d.ensures.1)
