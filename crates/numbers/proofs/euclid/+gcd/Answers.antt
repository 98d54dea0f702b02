-- `numbers::euclid::gcd` meets its contract: one turn of Euclid's rule for each call. The measure is the second number, which falls.
-- Assumes nothing.
use mathlib.Core.Path.{◌∙◌}
use native.Mathlib.Nat.{mod-lt}
use native.Mathlib.Omega.{arith}
use Rattle.numbers.proofs.Divisor.{gcd_zero, gcd_turn}
use Rattle.numbers.proofs.euclid.+gcd.Goals as goal

pub gcd-requires : goal.gcd-requires
gcd-requires t c = (omega (arith, mod-lt c.args.a {m = c.args.b} (omega arith)), tt)

pub returns-then-b-eq0 : goal.returns-then-b-eq0
returns-then-b-eq0 t c = gcd_zero c.args.a c.args.b c.if-b-eq0.true

pub returns-else-b-eq0 : goal.returns-else-b-eq0
returns-else-b-eq0 t c = c.gcd.ensures ∙ gcd_turn c.args.a c.args.b (omega arith)
