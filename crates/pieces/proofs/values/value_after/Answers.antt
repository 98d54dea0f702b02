-- What is read so far is the value of the bytes before this one, and fits. Assumes nothing.
use mathlib.Core.Path.{◌≡◌, refl, sym, ap, ◌∙◌}
use mathlib.Core.List.{List}
use Prim.Native.Nat.{ℕ, ◌<◌, ◌+◌, ◌*◌}
use native.Mathlib.Nat.{add-zero}
use native.Mathlib.Omega.{arith}
use lib.ListN.{length, get_or, take}
use Rattle.std.proofs.lemmas.List.{take_more, take_all}
use Rattle.tokens.specs.Bytes.{value_after}
use Rattle.tokens.proofs.HighFirst.{shl_or, grows, wider, value_append}
use Rattle.pieces.proofs.values.value_after.Goals as goal

more : (a : ℕ) (s : List ℕ) (i : ℕ) → i < length s → value_after a (take (i + 1) s) ≡ value_after a (take i s) * 256 + get_or s i 0
unfolding value_after
more a s i h = ap (value_after a) (take_more s i 0 h) ∙ value_append a (take i s) _

pub loop-b-init : goal.loop-b-init
unfolding value_after
loop-b-init c = (rw add-zero c.requires.1, refl)

pub loop-b-preserved : goal.loop-b-preserved
loop-b-preserved c =
    let a = c.args in
    let o = c.loop-b in
    let s = a.part.now in
    let hb : get_or s o.b-index 0 < 256 = omega (arith, c.type_inv.part o.b-index) in
    let e = shl_or o.v (get_or s o.b-index 0) (wider (a.had + o.b-index) 7 (omega (arith, c.requires.0, c.loop-b-test.true)) o.invariant.0) hb in
    let g : a.had + (o.b-index + 1) ≡ a.had + o.b-index + 1 = omega arith in
    (rw (e, g) (grows (a.had + o.b-index) o.v _ o.invariant.0 hb), e ∙ ap (λ (v : ℕ). v * 256 + get_or s o.b-index 0) o.invariant.1 ∙ sym (more a.before s o.b-index c.loop-b-test.true))

pub returns : goal.returns
returns c =
    let a = c.args in
    let o = c.loop-b in
    let e : o.b-index ≡ length a.part.now = omega arith in
    (o.invariant.1 ∙ ap (value_after a.before) (take_all o.b-index a.part.now c.loop-b-test.false), rw e at o.invariant.0)
