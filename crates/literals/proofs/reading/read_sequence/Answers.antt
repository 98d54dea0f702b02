-- `reading::read_sequence` meets its contract. Assumes nothing.
use Rattle.std.specs.Prelude.{Ok}
use mathlib.Core.Path.{ap, ◌∙◌}
use native.Mathlib.Omega.{arith}
use Rattle.literals.proofs.Finding.{name_inside, is_number, is_name_lem, is_text, is_unread, is_other}
use Rattle.literals.proofs.reading.read_sequence.Goals as goal

pub word-requires-in-Identifier : goal.word-requires-in-Identifier
word-requires-in-Identifier c =
    omega (arith, name_inside _ _ _ c.read_token.ensures _ _ (c.in-Ok.is ∙ ap Ok c.in-Identifier.is))

pub returns-in-Number : goal.returns-in-Number
returns-in-Number c = is_number _ _ _ c.read_token.ensures _ _ _ (c.in-Ok.is ∙ ap Ok c.in-Number.is) c.found.ensures

pub returns-in-Identifier : goal.returns-in-Identifier
returns-in-Identifier c =
    let t = c.in-Ok.is ∙ ap Ok c.in-Identifier.is in
    is_name_lem _ _ _ c.read_token.ensures _ _ _ _ _ t c.word.ensures c.word-in-Identifier.ensures c.found-in-Identifier.ensures

pub returns-in-String : goal.returns-in-String
returns-in-String c =
    is_text _ _ _ c.read_token.ensures _ _ _ _ (c.in-Ok.is ∙ ap Ok c.in-String.is) c.word-in-String.ensures c.found-in-String.ensures

pub returns-in_default : goal.returns-in_default
returns-in_default c = is_unread _ _ _ c.read_token.ensures _ _ _ c.in_default.is c.nothing.ensures

pub returns-in_default-token : goal.returns-in_default-token
returns-in_default-token c =
    let o = c.in_default-token in
    is_other _ _ _ c.read_token.ensures _ _ c.requires.1 c.in-Ok.is o.not-Number o.not-Identifier o.not-String c.nothing-in_default-token.ensures
