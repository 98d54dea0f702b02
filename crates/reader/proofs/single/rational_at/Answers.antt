-- `single::rational_at` meets its contract: the value of two halves. Assumes nothing.
use Rattle.std.specs.Prelude.{Err}
use Rattle.tokens.specs.Inner.{rational_by}
use Rattle.tokens.specs.Token.{number_read}
use Rattle.tokens.proofs.Judged.{rational_by_lem}
use Rattle.tokens.proofs.Sizes.{ruled_is, ruled_not, rational_few}
use Rattle.table.proofs.WordLists.{Bytes}
use lib.ListN.{length}
use Prim.Native.Nat.{ℕ, ◌+◌, ◌*◌, ◌/◌, ◌%◌, ◌≤◌}
use native.Mathlib.Nat.{zero-add}
use native.Mathlib.Omega.{arith}
use mathlib.Core.Path.{◌≡◌, sym, ap, ◌∙◌}
use Rattle.reader.proofs.single.rational_at.Goals as goal
use Rattle.reader.proofs.single.rational_at.Goals.{Else-not-rational_size}

few : (c : Else-not-rational_size) → (length c.args.part.now % 2 ≡ 0) × (length c.args.part.now ≤ 8)
few c = rational_few _ (sym c.rational_size.ensures ∙ c.if-not-rational_size.false)

pub returns-then-not-rational_size : goal.returns-then-not-rational_size
returns-then-not-rational_size c = ruled_not _ _ _ _ (sym c.rational_size.ensures ∙ c.if-not-rational_size.true) (ap Err c.met_at.ensures)

pub value_after-requires : goal.value_after-requires
value_after-requires c = (omega (arith, (few (goal.at.value_after-requires c).Else-not-rational_size).1), omega arith)

pub rational-requires : goal.rational-requires
rational-requires c =
    let n = length c.args.part.now in
    let e : 8 * (n / 2) + 8 * (n / 2) ≡ 8 * n = omega (arith, (few (goal.at.rational-requires c).Else-not-rational_size).0) in
    (omega (arith, (few (goal.at.rational-requires c).Else-not-rational_size).1), rw e (rw (zero-add n) at c.value_after.ensures.1))

pub returns : goal.returns
returns c =
    let a = c.args in
    let d = a.part.now in
    let h : ℕ = length d / 2 in
    let b : Bytes d = (λ i. omega (arith, c.type_inv.part i)) in
    let halved : length d ≡ h + h = omega (arith, (few (goal.at.returns c).Else-not-rational_size).0) in
    let e = ap (rational_by h) c.value_after.ensures.0 ∙ rational_by_lem h d halved b in
    ruled_is _ _ _ _ (sym c.rational_size.ensures ∙ c.if-not-rational_size.false) (c.rational.ensures ∙ ap (number_read a.at a.next) e)
