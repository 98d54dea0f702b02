-- `writing::put_bytes` meets its contract: what is left of the value, put before what is put already, is the whole. Assumes nothing.
use Rattle.std.proofs.Common.{◌≡◌, ◌+◌, ◌-◌, sym, refl, ap, ◌∙◌, arith, length-set}
use lib.Seq.{sets}
use Rattle.lists.specs.Written.{bytes_of}
use Rattle.lists.proofs.HighBytes.{bytes_length}
use Rattle.lists.proofs.Storing.{low_first}
use Rattle.lists.proofs.writing.put_bytes.Goals as goal

pub loop-i-init : goal.loop-i-init
loop-i-init c =
    let a = c.args in
    let e : a.k - 0 ≡ a.k = omega arith in
    (refl, ap (λ n. sets a.out.now a.o (bytes_of n a.v)) e, omega (arith, c.requires, bytes_length a.k a.v))

pub loop-i-preserved : goal.loop-i-preserved
loop-i-preserved c =
    let a = c.args in
    let o = c.loop-i in
    let e : a.o + a.k - 1 - o.i ≡ a.o + (a.k - o.i - 1) = omega arith in
    let f : a.k - (o.i + 1) ≡ a.k - o.i - 1 = omega arith in
    (simp length-set o.invariant.0, rw (e, f) (sym (low_first o.out a.o (a.k - o.i) o.w (omega arith)) ∙ o.invariant.1), o.invariant.2)

pub returns : goal.returns
unfolding bytes_of
returns c =
    let a = c.args in
    let e : a.k - c.loop-i.i ≡ 0 = omega arith in
    record { next = ap (λ n. a.o + n) (sym (bytes_length a.k a.v)); stored = rw e at c.loop-i.invariant.1 }
