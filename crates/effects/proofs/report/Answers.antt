-- `report` meets its contract. Assumes nothing.
use mathlib.Core.Path.{refl}
use borrow.Author.Rules.{rules}
use Rattle.effects.proofs.Acting.{report_all, report_other, report_none}
use Rattle.effects.proofs.report.Goals as goal

pub returns-in_default : goal.returns-in_default
returns-in_default c = report_none _ c.requires c.in_default.not-Vector refl

pub returns-then-all : goal.returns-then-all
returns-then-all c = search (rules, report_all)

pub returns : goal.returns
returns c = search (rules, report_other)
