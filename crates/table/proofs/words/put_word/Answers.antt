-- `words::put_word` meets its contract. Assumes nothing.
use native.Mathlib.Omega.{arith}
use mathlib.Core.Path.{◌∙◌}
use Prim.Native.Nat.{◌+◌, ◌-◌}
use Rattle.table.specs.Words.{word_bytes}
use Rattle.table.proofs.Stores.{stored, word_length}
use Rattle.table.proofs.words.put_word.Goals as goal

pub returns : goal.returns
unfolding word_bytes
returns c =
    let a = c.args in
    stored a.b.now a.i (a.i + 4 - a.i) _ (word_bytes a.w) (c.copy_from_slice.ensures.after ∙ c.to_le_bytes.ensures) (rw word_length (omega arith)) (omega arith)
