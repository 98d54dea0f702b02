-- `judging::judge_rational` meets its contract. Assumes nothing.
use Rattle.std.specs.Prelude.{Err}
use Prim.Native.Nat.{◌/◌, ◌+◌, ◌*◌}
use Rattle.tokens.proofs.Sizes.{ruled_is, ruled_not, rational_few}
use native.Mathlib.Omega.{arith}
use mathlib.Core.Path.{◌≡◌, sym, ◌∙◌, ap}
use Rattle.reader.proofs.judging.judge_rational.Goals as goal

pub returns-then-not-rational_size : goal.returns-then-not-rational_size
returns-then-not-rational_size c = ruled_not _ _ _ _ (sym c.rational_size.ensures ∙ c.if-not-rational_size.true) (ap Err c.met_at.ensures)

pub rational-requires : goal.rational-requires
rational-requires c =
    let g = c.args.g in
    let few = rational_few g.len (sym c.rational_size.ensures ∙ c.if-not-rational_size.false) in
    let e : 8 * (g.len / 2) + 8 * (g.len / 2) ≡ 8 * g.len = omega (arith, few.0) in
    (omega (arith, few.1), rw e (c.requires few.1))

pub returns : goal.returns
returns c = ruled_is _ _ _ _ (sym c.rational_size.ensures ∙ c.if-not-rational_size.false) c.rational.ensures
