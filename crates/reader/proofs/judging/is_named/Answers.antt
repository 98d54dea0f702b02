-- `judging::is_named` meets its contract: the tests in the definition's order. Assumes nothing.
use Rattle.tokens.specs.Text.{is_letter}
use Rattle.tokens.proofs.Sizes.{named_size, named_letter, named_is}
use mathlib.Core.Path.{sym, ◌∙◌}
use Rattle.reader.proofs.judging.is_named.Goals as goal

pub returns-then-not-name_size : goal.returns-then-not-name_size
returns-then-not-name_size c =
    let g = c.args.g in sym (named_size g.len (is_letter g.first) g.good (sym c.name_size.ensures ∙ c.if-not-name_size.true))

pub returns-then-not-is_letter : goal.returns-then-not-is_letter
returns-then-not-is_letter c =
    let g = c.args.g in sym (named_letter g.len (is_letter g.first) g.good (sym c.is_letter.ensures ∙ c.if-not-is_letter.true))

pub returns : goal.returns
returns c =
    let g = c.args.g in named_is g.len (is_letter g.first) g.good (sym c.name_size.ensures ∙ c.if-not-name_size.false) (sym c.is_letter.ensures ∙ c.if-not-is_letter.false)
