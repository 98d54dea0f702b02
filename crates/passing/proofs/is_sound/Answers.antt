-- `is_sound` meets its contract: type by type. Assumes nothing.
use Rattle.tokens.proofs.OnePiece.{string_over, integer_over, rational_over, name_over, comment_over}
use borrow.Author.Tests.{eqb-true}
use mathlib.Core.Path.{refl, sym, ◌∙◌}
use Rattle.passing.proofs.is_sound.Goals as goal

pub returns-in-1 : goal.returns-in-1
returns-in-1 c e at next = string_over c.args.k _ c.args.part.now refl at next c.in-1.is (sym c.all_obey.ensures ∙ e)

pub returns-in-2 : goal.returns-in-2
returns-in-2 c e at next = integer_over c.args.k _ c.args.part.now refl at next c.in-2.is (c.is_integer.ensures e)

pub returns-in-4 : goal.returns-in-4
returns-in-4 c e at next = rational_over c.args.k _ c.args.part.now refl at next c.in-4.is (c.is_rational.ensures e)

pub returns-in-5 : goal.returns-in-5
returns-in-5 c e at next = name_over c.args.k _ c.args.part.now refl at next c.in-5.is (sym c.is_name.ensures ∙ e)

pub returns-in_default : goal.returns-in_default
returns-in_default c e at next = comment_over c.args.k _ c.args.part.now refl at next (eqb-true c.args.k 6 e)
