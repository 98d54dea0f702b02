use Rattle.tokens.proofs.HighFirst.{wider}
use Rattle.tokens.specs.Bytes.{value_after}
use Rattle.std.proofs.lemmas.List.{take_all, length-take}
use lib.ListN.{length, take}
use Prim.Native.Nat.{◌+◌, ◌-◌}
use native.Mathlib.Omega.{arith}
use mathlib.Core.Path.{◌≡◌, sym, ap, ◌∙◌}
use Rattle.pieces.proofs.sequences.value_more.Goals as goal

pub returns-then-room-had : goal.returns-then-room-had
unfolding value_after
returns-then-room-had c =
    let a = c.args in
    let e : a.room - a.g.len ≡ 0 = omega (arith, c.if-room-had.true) in
    (rw e, (λ h. wider a.g.len (a.g.len + length a.part.now) (omega arith) (c.requires.1 (omega arith))))

pub value_after-requires : goal.value_after-requires
value_after-requires c = (omega arith, c.requires.1 (omega arith))

pub returns-then-part-room : goal.returns-then-part-room
returns-then-part-room c =
    let a = c.args in
    (c.value_after.ensures.0 ∙ ap (value_after a.g.value) (sym (take_all (a.room - a.g.len) a.part.now (omega arith))), (λ h. c.value_after.ensures.1))

pub value_after-requires-2 : goal.value_after-requires-2
value_after-requires-2 c = (omega (arith, length-take (c.args.room - c.args.g.len) c.args.part.now), c.requires.1 (omega arith))

pub returns : goal.returns
returns c =
    let a = c.args in
    let n = length-take (a.room - a.g.len) a.part.now in
    (c.value_after-2.ensures.0, (λ h. wider (a.g.len + length (take (a.room - a.g.len) a.part.now)) (a.g.len + length a.part.now) (omega (arith, n)) c.value_after-2.ensures.1))
