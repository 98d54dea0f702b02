-- `judging::rational` meets its contract: the quotient of the two halves. Assumes nothing.
use Prim.Native.Nat.{◌^◌, ◌/◌, ◌%◌, ◌*◌}
use Rattle.tokens.specs.Inner.{rational_by}
use Rattle.tokens.specs.Bytes.{signed_of}
use Rattle.tokens.specs.Token.{number_read}
use mir.Syntax.{w64}
use mir.Facts.{to_z-of_z}
use lib.Pow.{shr_lt, pow_pos}
use native.Mathlib.Nat.{mod-lt}
use mathlib.Core.Path.{◌≡◌, ap, ◌∙◌}
use Rattle.reader.proofs.judging.rational.Goals as goal
use Rattle.reader.proofs.judging.rational.Goals.{After-ratio}

quotient : (c : After-ratio) → c.ratio.result ≡ rational_by c.args.h c.args.v
unfolding rational_by
quotient c =
    let a = c.args in
    let n : c.extended.result ≡ signed_of a.h (a.v / 2 ^ (8 * a.h)) = c.extended.ensures ∙ ap (signed_of a.h) c.high_half.ensures in
    let d : c.extended-2.result ≡ signed_of a.h (a.v % 2 ^ (8 * a.h)) = c.extended-2.ensures ∙ ap (signed_of a.h) c.low_half.ensures in
    c.ratio.ensures ∙ rw (to_z-of_z {w = w64} (record { sfits = c.extended.type_inv }), to_z-of_z {w = w64} (record { sfits = c.extended-2.type_inv }), n, d)

pub extended-requires : goal.extended-requires
extended-requires c =
    let s = c in
    (s.requires.0, rw c.high_half.ensures (shr_lt (8 * s.args.h) (8 * s.args.h) s.requires.1))

pub extended-requires-2 : goal.extended-requires-2
extended-requires-2 c =
    let s = c in
    (s.requires.0, rw c.low_half.ensures (mod-lt s.args.v (pow_pos (8 * s.args.h))))

pub returns : goal.returns
returns c =
    c.number_read.ensures ∙ ap (number_read c.args.at c.args.next) (quotient (goal.at.returns c).After-ratio)
