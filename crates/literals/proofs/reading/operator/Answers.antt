use Rattle.literals.proofs.Finding.{as_plain, as_holder, as_none}
use mathlib.Core.Path.{sym, ◌∙◌}
use Rattle.literals.proofs.reading.operator.Goals as goal

pub holding-requires : goal.holding-requires
holding-requires c = (c.requires.0, c.requires.1, c.requires.2 (sym c.role_of.ensures ∙ c.in-Holds.is))

pub returns-in-Plain : goal.returns-in-Plain
returns-in-Plain c = (as_plain _ _ _ _ _ c.role_of.ensures c.in-Plain.is c.found.ensures, c.requires.1)

pub returns-in-Holds : goal.returns-in-Holds
returns-in-Holds c = (as_holder _ _ _ _ _ c.role_of.ensures c.in-Holds.is c.holding.ensures.0, c.holding.ensures.1)

pub returns-in_default : goal.returns-in_default
returns-in_default c =
    (as_none _ _ _ _ _ c.role_of.ensures c.in_default.not-Plain c.in_default.not-Holds c.nothing.ensures, c.requires.1)
