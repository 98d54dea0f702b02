-- `writing::put_text` meets its contract. Assumes nothing.
use Rattle.std.proofs.Common.{arith}
use Rattle.lists.proofs.Storing.{room_first, sequence_is, text_then, text_put}
use Rattle.lists.proofs.writing.put_text.Goals as goal

pub put_sequence_head-p-requires : goal.put_sequence_head-p-requires
put_sequence_head-p-requires c =
    let a = c.args in (room_first _ _ a.part.now (sequence_is a.kind a.part.now) a.out.now a.o c.requires.0, c.requires.1)

pub copy-requires : goal.copy-requires
copy-requires c =
    let a = c.args in text_then a.part.now a.kind a.out.now c.put_sequence_head-p.new.out a.o _ c.requires.0 c.put_sequence_head-p.ensures c.put_sequence_head-p.auto.out

pub overflow_add-result : goal.overflow_add-result
overflow_add-result c =
    let a = c.args in
    let g = text_then a.part.now a.kind a.out.now c.put_sequence_head-p.new.out a.o _ c.requires.0 c.put_sequence_head-p.ensures c.put_sequence_head-p.auto.out in
    omega (arith, g, c.put_sequence_head-p.auto.out)

pub returns : goal.returns
returns c =
    let a = c.args in text_put a.part.now a.kind _ _ _ _ _ c.put_sequence_head-p.ensures c.copy.ensures
