use mathlib.Core.List.{List}
use Prim.Native.Nat.{ℕ, ◌-◌}
use lib.ListN.{length}
use Rattle.items.specs.Tokens.{Token}
use Rattle.filling.specs.Filling.{tokens_in}
use Rattle.filling.proofs.Surveying.{Surveyed}
use Rattle.back.proofs.reading.survey_of.Given as goal

abbrev pub invariant-loop-at : goal.invariant-loop-at
invariant-loop-at l = (k : ℕ) × (ts : List Token) × Surveyed (tokens_in l.s) l.s k l.at l.count l.texts ts

abbrev pub decreases-loop-at : goal.decreases-loop-at
decreases-loop-at l = length l.s - l.at
