-- `put_number` meets its contract. Assumes nothing.
use Rattle.numbers.proofs.SignedWord.{passed}
use Rattle.lists.specs.Promise.{four_words}
use lib.Seq.{sets}
use Prim.Native.Nat.{ℕ}
use mathlib.Core.Path.{ap, ◌∙◌}
use Rattle.filling.proofs.put_number.Goals as goal

pub returns : goal.returns
returns c =
    let a = c.args in c.put_words.ensures ∙ ap (λ (v : ℕ). sets a.list.now a.p (four_words 1 v a.value.den)) (c.to_word.ensures ∙ passed a.value.num c.struct_told-1.given.0.1)
