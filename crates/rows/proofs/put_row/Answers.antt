-- `put_row` meets its contract. Assumes nothing.
use Rattle.rows.proofs.Rowing.{row_put}
use Rattle.rows.proofs.put_row.Goals as goal

pub returns : goal.returns
returns c =
    row_put _ _ _ _ _ _ c.args.before c.args.q _ _ _ _ c.outcome_of.ensures c.put_word.ensures c.word.ensures c.put_word-2.ensures c.word-2.ensures c.put_word-3.ensures c.word-3.ensures c.put_word-4.ensures
