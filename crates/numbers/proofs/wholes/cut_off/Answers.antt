-- `numbers::wholes::cut_off` meets its contract: the quotient toward zero has the dividend's sign. Assumes nothing.
use mathlib.Core.Path.{ap, ◌∙◌}
use Rattle.numbers.specs.Whole.{signed}
use Rattle.numbers.proofs.Signs.{signed_quot}
use Rattle.numbers.proofs.wholes.cut_off.Goals as goal

pub whole_part-requires : goal.whole_part-requires
whole_part-requires c = tt

pub returns : goal.returns
returns c =
    let a = c.args in ap (signed a.n.below) c.whole_part.ensures ∙ signed_quot a.n.below a.n.size a.d
