use Rattle.passing.proofs.Knowing.{text_there, name_there}
use Rattle.literals.proofs.Standing.{stands_reads}
use Rattle.literals.proofs.Finding.{name_inside, is_name_lem, is_text}
use mathlib.Core.Path.{refl, sym, ◌∙◌}
use native.Mathlib.Omega.{arith}
use Rattle.literals.proofs.reading.due_sequence.Goals as goal

pub returns-in-1 : goal.returns-in-1
returns-in-1 c =
    let t = text_there _ _ c.requires.1.1 (stands_reads _ c.requires.2) _ c.extent-x.ensures (sym c.low5.ensures ∙ c.in-1.is) in
    is_text _ _ _ refl _ _ _ _ t c.word.ensures c.found.ensures

pub word-requires-in-5-2 : goal.word-requires-in-5-2
word-requires-in-5-2 c =
    let t = name_there _ _ c.requires.1.1 (stands_reads _ c.requires.2) _ c.extent-x-in-5.ensures (sym c.low5.ensures ∙ c.in-5.is) in
    omega (arith, name_inside _ _ _ refl _ _ t, c.requires.0)

pub returns-in-5 : goal.returns-in-5
returns-in-5 c =
    let t = name_there _ _ c.requires.1.1 (stands_reads _ c.requires.2) _ c.extent-x-in-5.ensures (sym c.low5.ensures ∙ c.in-5.is) in
    is_name_lem _ _ _ refl _ _ _ _ _ t c.word-in-5.ensures c.word-in-5-2.ensures c.found-in-5.ensures
