use mathlib.Core.Path.{◌≡◌}
use Prim.Native.Nat.{◌-◌}
use Rattle.table.specs.Slots.{slots}
use Rattle.store.proofs.Cardinals.{cardinals}
use Rattle.store.proofs.cells.all_cardinals.Given as goal

abbrev pub invariant-loop-k : goal.invariant-loop-k
invariant-loop-k l = cardinals (slots l.w) l.used l.k (l.end - l.k) ≡ cardinals (slots l.w) l.used l.first l.count
