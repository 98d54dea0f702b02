use mathlib.Core.Path.{◌≡◌}
use Prim.Native.Nat.{◌<◌, ◌*◌, ◌+◌, ◌^◌}
use lib.ListN.{take}
use Rattle.tokens.specs.Bytes.{value_after}
use Rattle.pieces.proofs.values.value_after.Given as goal

abbrev pub invariant-loop-b : goal.invariant-loop-b
invariant-loop-b l = (l.v < 2 ^ (8 * (l.had + l.b-index))) × (l.v ≡ value_after l.before (take l.b-index l.part))
