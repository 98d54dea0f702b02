-- `single::integer_at` meets its contract. Assumes nothing.
use Rattle.std.specs.Prelude.{Err}
use Rattle.numbers.specs.Fraction.{ratio_of}
use Rattle.tokens.specs.Bytes.{signed_of}
use Rattle.tokens.specs.Token.{number_read}
use Rattle.tokens.proofs.Sizes.{ruled_is, ruled_not, integer_few}
use lib.IntN.{pos}
use lib.ListN.{length}
use Prim.Native.Nat.{ℕ, ◌≤◌}
use native.Mathlib.Nat.{zero-add}
use native.Mathlib.Omega.{arith}
use mathlib.Core.Path.{sym, ap, ◌∙◌}
use Rattle.reader.proofs.single.integer_at.Goals as goal
use Rattle.reader.proofs.single.integer_at.Goals.{Else-not-integer_size}

few : (c : Else-not-integer_size) → length c.args.part.now ≤ 4
few c = integer_few _ (sym c.integer_size.ensures ∙ c.if-not-integer_size.false)

pub returns-then-not-integer_size : goal.returns-then-not-integer_size
returns-then-not-integer_size c = ruled_not _ _ _ _ (sym c.integer_size.ensures ∙ c.if-not-integer_size.true) (ap Err c.met_at.ensures)

pub value_after-requires : goal.value_after-requires
value_after-requires c = (omega (arith, few (goal.at.value_after-requires c).Else-not-integer_size), omega arith)

pub integer-requires : goal.integer-requires
integer-requires c =
    (few (goal.at.integer-requires c).Else-not-integer_size, rw (zero-add (length c.args.part.now)) at c.value_after.ensures.1)

pub returns : goal.returns
returns c =
    let a = c.args in
    let e = ap (λ (v : ℕ). number_read a.at a.next (ratio_of (signed_of (length a.part.now) v) (pos 1))) c.value_after.ensures.0 in
    ruled_is _ _ _ _ (sym c.integer_size.ensures ∙ c.if-not-integer_size.false) (c.integer.ensures ∙ e)
