-- `text::lower` meets its contract: std's words for upper case are ours. Assumes nothing.
use mathlib.Core.Path.{◌≡◌, ◌∙◌}
use Prim.Native.Nat.{ℕ}
use native.Mathlib.Omega.{arith}
use Rattle.std.proofs.lemmas.Bool.Decides.{nat_tests}
use Rattle.tokens.specs.Text.{lower_of}
use Rattle.std.specs.Char.{to_ascii_lowercase}
use Rattle.pieces.proofs.text.lower.Goals as goal

same : (b : ℕ) → to_ascii_lowercase b ≡ lower_of b
unfolding lower_of
same b = grind (arith, nat_tests)

pub returns : goal.returns
returns c = c.to_ascii_lowercase.ensures.value ∙ same c.args.b
