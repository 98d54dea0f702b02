use Rattle.tokens.specs.Text.{every}
use lib.ListN.{take}
use mathlib.Core.Path.{◌≡◌}
use Rattle.pieces.proofs.text.all_obey.Given as goal

abbrev pub invariant-loop-b : goal.invariant-loop-b
invariant-loop-b l = l.good ≡ every l.rule (take l.b-index l.part)
