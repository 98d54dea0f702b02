-- `put_part` meets its contract: the bytes copied are then those in lower case. Assumes nothing.
use mathlib.Core.Path.{◌≡◌, refl}
use Prim.Native.Nat.{◌+◌, ◌-◌}
use native.Mathlib.Omega.{arith}
use lib.ListN.{length}
use Rattle.filling.specs.Filling.{shown}
use Rattle.filling.proofs.Copying.{lowered_over}
use Rattle.filling.proofs.put_part.Goals as goal

pub returns-then-lower : goal.returns-then-lower
returns-then-lower c =
    let a = c.args in
    let n = length a.part.now in
    let k : a.o + n - a.o ≡ n = omega arith in
    rw (k, c.if-lower.true) (lowered_over a.text.now a.o n a.part.now refl c.requires _ _ c.copy.ensures c.make_ascii_lowercase.ensures.after)

pub returns-else-lower : goal.returns-else-lower
unfolding shown
returns-else-lower c = rw c.if-lower.false c.copy.ensures
