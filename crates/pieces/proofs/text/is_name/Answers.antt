-- `text::is_name` meets its contract: the tests in the definition's order. Assumes nothing.
use Rattle.tokens.specs.Text.{is_letter, every, is_name}
use Rattle.tokens.proofs.Sizes.{named_size, named_letter, named_is}
use lib.ListN.{length, get_or}
use mathlib.Core.Bool.{Bool, false≢true}
use mathlib.Core.Path.{sym, ◌∙◌}
use Rattle.pieces.proofs.text.is_name.Goals as goal
use Rattle.pieces.proofs.text.is_name.Goals.{then-name_size, else-name_size}

pub returns-then-is_letter : goal.returns-then-is_letter
unfolding is_name
returns-then-is_letter c =
    let a = c.args in
    let l : Bool = is_letter (get_or a.part.now 0 0) in
    let g : Bool = every a.rule a.part.now in
    elim c.if-name_size.branch [
      | then-name_size w ↦ c.all_obey.ensures ∙
          named_is (length a.part.now) l g (sym c.name_size.ensures ∙ w.if-name_size.true) (sym w.is_letter.ensures ∙ sym w.value-is ∙ c.if-is_letter.true)
      | else-name_size w ↦ absurd (false≢true (sym w.if-name_size.false ∙ sym w.value-is ∙ c.if-is_letter.true))
    ]

pub returns-else-is_letter : goal.returns-else-is_letter
unfolding is_name
returns-else-is_letter c =
    let a = c.args in
    let l : Bool = is_letter (get_or a.part.now 0 0) in
    let g : Bool = every a.rule a.part.now in
    elim c.if-name_size.branch [
      | then-name_size w ↦ c.if-is_letter.false ∙ sym (named_letter (length a.part.now) l g (sym w.is_letter.ensures ∙ sym w.value-is ∙ c.if-is_letter.false))
      | else-name_size w ↦ c.if-is_letter.false ∙ sym (named_size (length a.part.now) l g (sym c.name_size.ensures ∙ w.if-name_size.false))
    ]
