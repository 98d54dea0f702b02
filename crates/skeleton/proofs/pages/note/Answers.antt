-- `pages::note` meets its contract. Assumes nothing.
use mathlib.Core.Path.{refl}
use Prim.Native.Nat.{◌+◌, ◌*◌}
use native.Mathlib.Omega.{arith}
use lib.ListN.{length-set}
use Rattle.skeleton.specs.Spans.{noted}
use Rattle.skeleton.proofs.pages.note.Goals as goal

pub bounds-places-n-2 : goal.bounds-places-n-2
bounds-places-n-2 c = omega (arith, length-set c.args.places.now (2 * c.args.n) (c.args.at + 2), c.requires.0)

pub returns : goal.returns
unfolding noted
returns c = refl
