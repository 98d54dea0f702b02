-- `spans::note` meets its contract. Assumes nothing.
use Prim.Native.Nat.{◌*◌, ◌%◌}
use native.Mathlib.Omega.{arith}
use lib.ListN.{length-set}
use Rattle.spans.specs.Memo.{with_note}
use Rattle.spans.proofs.note.Goals as goal

pub bounds-memo-i-2 : goal.bounds-memo-i-2
bounds-memo-i-2 c =
    let a = c.args in let i = 2 * (a.at % 64) in omega (arith, length-set a.memo.now i c.word.result, c.requires.0)

pub returns : goal.returns
unfolding with_note
returns c = rw (c.word.ensures, c.word-2.ensures)
