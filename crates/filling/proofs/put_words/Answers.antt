-- `put_words` meets its contract: four words stored one after another. Assumes nothing.
use Rattle.filling.proofs.Placing.{four_put}
use Rattle.filling.proofs.put_words.Goals as goal

pub returns : goal.returns
returns c =
    let a = c.args in four_put a.b.now _ _ _ _ a.i a.k a.v a.w c.put_word.ensures c.put_word-2.ensures c.put_word-3.ensures c.put_word-4.ensures
