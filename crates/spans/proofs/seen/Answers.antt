-- `spans::seen` meets its contract. Assumes nothing.
use native.Mathlib.Omega.{arith}
use borrow.Author.Rules.{rules}
use Rattle.spans.proofs.seen.Goals as goal

pub returns-then-size-at : goal.returns-then-size-at
returns-then-size-at c = record { some = search rules; begins = omega arith; ends = search rules }
