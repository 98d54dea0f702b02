-- `words::copy` meets its contract: what is left to copy, stored after what is copied, is the whole. Assumes nothing.
use mathlib.Core.Path.{◌≡◌, refl, sym, ◌∙◌}
use native.Mathlib.Omega.{arith}
use Prim.Native.Nat.{suc, ◌+◌}
use native.Mathlib.Nat.{add-zero}
use lib.ListN.{length, length-set}
use lib.Seq.{slice_empty}
use Rattle.std.proofs.lemmas.List.{take_all}
use Rattle.table.proofs.Stores.{slice_next}
use Rattle.table.proofs.words.copy.Goals as goal

pub loop-i-init : goal.loop-i-init
loop-i-init c = (refl, rw (add-zero c.args.at, take_all (length c.args.x.now) c.args.x.now (omega arith)))

pub loop-i-preserved : goal.loop-i-preserved
loop-i-preserved c =
    let a = c.args in
    let o = c.loop-i in
    let e : o.i + 1 ≡ suc o.i = omega arith in
    let f : a.at + (o.i + 1) ≡ suc (a.at + o.i) = omega arith in
    (simp length-set o.invariant.0, rw (f, e) (sym (slice_next o.out (a.at + o.i) a.x.now o.i (length a.x.now) (omega arith) (omega arith)) ∙ o.invariant.1))

pub returns : goal.returns
returns c =
    let e : c.loop-i.i ≡ length c.args.x.now = omega arith in rw (e, slice_empty) at c.loop-i.invariant.1
