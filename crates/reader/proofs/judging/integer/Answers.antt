-- `judging::integer` meets its contract. Assumes nothing.
use Rattle.numbers.specs.Fraction.{ratio_of}
use Rattle.tokens.specs.Token.{number_read}
use lib.IntN.{ℤ, pos}
use mir.Syntax.{w64}
use mir.Facts.{to_z-of_z}
use mathlib.Core.Path.{ap, ◌∙◌}
use Rattle.reader.proofs.judging.integer.Goals as goal

pub returns : goal.returns
returns c =
    let a = c.args in
    let e = to_z-of_z {w = w64} (record { sfits = c.extended.type_inv }) ∙ c.extended.ensures in
    c.number_read.ensures ∙ ap (number_read a.at a.next) (c.ratio.ensures ∙ ap (λ (z : ℤ). ratio_of z (pos 1)) e)
