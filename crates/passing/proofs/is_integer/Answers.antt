-- `is_integer` meets its contract. Assumes nothing.
use Rattle.tokens.proofs.OnePiece.{differs, integer_answered}
use Rattle.tokens.proofs.Sizes.{integer_few}
use lib.ListN.{length}
use native.Mathlib.Nat.{zero-add}
use native.Mathlib.Omega.{arith}
use mathlib.Core.Bool.{false≢true}
use mathlib.Core.Path.{sym, ◌∙◌}
use Rattle.passing.proofs.is_integer.Goals as goal

pub returns-then-not-integer_size : goal.returns-then-not-integer_size
returns-then-not-integer_size c e = absurd (false≢true e)

pub value_after-requires : goal.value_after-requires
value_after-requires c =
    let few = integer_few (length c.args.part.now) (sym c.integer_size.ensures ∙ c.if-not-integer_size.false) in
    (omega (arith, few), omega arith)

pub returns : goal.returns
returns c e =
    let d = c.args.part.now in
    let size = sym c.integer_size.ensures ∙ c.if-not-integer_size.false in (
      size,
      integer_answered (length d) c.value_after.result d c.value_after.ensures.0 (integer_few (length d) size) (rw (zero-add (length d)) at c.value_after.ensures.1) (differs _ _ e),
    )
