use mathlib.Core.List.{List}
use Prim.Native.Nat.{ℕ, ◌-◌}
use lib.ListN.{length}
use Rattle.items.specs.Tokens.{Token}
use Rattle.filling.specs.Filling.{tokens_in}
use Rattle.filling.proofs.Filled.{Filled}
use Rattle.filling.proofs.fill_tables.Given as goal

abbrev pub invariant-loop-place : goal.invariant-loop-place
invariant-loop-place l =
    (k : ℕ) × (ts : List Token) × Filled (tokens_in l.s) l.s l.initial.list l.list l.initial.text l.text k l.place.at l.place.p l.place.o ts

abbrev pub decreases-loop-place : goal.decreases-loop-place
decreases-loop-place l = length l.s - l.place.at
