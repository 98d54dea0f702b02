-- `letters::put_piece` meets its contract. Assumes nothing.
use borrow.Author.Rules.{rules}
use mathlib.Core.Path.{◌≡◌, refl, sym, ◌∙◌}
use Prim.Native.Nat.{suc, ◌+◌}
use native.Mathlib.Nat.{add-zero}
use lib.ListN.{length}
use lib.Seq.{slice_empty}
use Rattle.std.proofs.lemmas.List.{take_all}
use Rattle.table.specs.Slots.{slots}
use Rattle.state.specs.Operations.{letter_slots}
use Rattle.store.proofs.Charging.{letter_next}
use native.Mathlib.Omega.{arith}
use Rattle.store.proofs.letters.put_piece.Goals as goal

pub loop-i-init : goal.loop-i-init
loop-i-init c = (refl, rw (add-zero c.args.k, take_all (length c.args.part.now) c.args.part.now (omega arith)))

pub loop-i-preserved : goal.loop-i-preserved
loop-i-preserved c =
    let a = c.args in
    let o = c.loop-i in
    let e : o.i + 1 ≡ suc o.i = omega arith in
    let f : a.k + (o.i + 1) ≡ suc (a.k + o.i) = omega arith in
    (search rules, rw (f, e, c.put.ensures) (sym (letter_next (slots o.w) (a.k + o.i) a.part.now o.i (length a.part.now) (omega arith) (omega arith)) ∙ o.invariant.1))

pub returns : goal.returns
unfolding letter_slots
returns c =
    let e : c.loop-i.i ≡ length c.args.part.now = omega arith in rw (e, slice_empty) at c.loop-i.invariant.1
