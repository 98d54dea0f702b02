-- `judging::judge_integer` meets its contract. Assumes nothing.
use Rattle.std.specs.Prelude.{Err}
use Rattle.tokens.proofs.Sizes.{ruled_is, ruled_not, integer_few}
use Prim.Native.Nat.{◌≤◌}
use native.Mathlib.Omega.{arith}
use mathlib.Core.Path.{sym, ◌∙◌, ap}
use Rattle.reader.proofs.judging.judge_integer.Goals as goal

pub returns-then-not-integer_size : goal.returns-then-not-integer_size
returns-then-not-integer_size c = ruled_not _ _ _ _ (sym c.integer_size.ensures ∙ c.if-not-integer_size.true) (ap Err c.met_at.ensures)

pub integer-requires : goal.integer-requires
integer-requires c =
    let few : c.args.g.len ≤ 4 = integer_few _ (sym c.integer_size.ensures ∙ c.if-not-integer_size.false) in
    (few, c.requires (omega (arith, few)))

pub returns : goal.returns
returns c = ruled_is _ _ _ _ (sym c.integer_size.ensures ∙ c.if-not-integer_size.false) c.integer.ensures
