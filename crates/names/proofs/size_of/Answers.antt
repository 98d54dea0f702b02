-- `size_of` meets its contract. Assumes nothing.
use Rattle.names.proofs.Letters.{no_data}
use Rattle.names.proofs.size_of.Goals as goal

pub returns-then-origin-eq0 : goal.returns-then-origin-eq0
returns-then-origin-eq0 c = rw c.if-origin-eq0.true c.data_size.ensures

pub returns-then-origin-eq1 : goal.returns-then-origin-eq1
returns-then-origin-eq1 c = rw c.if-origin-eq1.true c.data_size-then-origin-eq1.ensures

pub returns : goal.returns
returns c =
    let a = c.args in no_data a.pre.now a.body.now a.origin c.if-origin-eq0.false c.if-origin-eq1.false a.start
