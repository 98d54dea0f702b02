-- `item_of` meets its contract. Assumes nothing.
use native.Mathlib.Omega.{arith}
use Rattle.items.proofs.Judging.{kind_1, kind_2, kind_3, kind_4, kind_none}
use Rattle.items.proofs.item_of.Goals as goal

pub returns-in-1 : goal.returns-in-1
returns-in-1 c =
    let a = c.args in rw (kind_1 a.x.now a.k a.a a.b a.c c.in-1.is) (c.number_item.ensures a.x.now)

pub returns-in-2 : goal.returns-in-2
returns-in-2 c =
    let a = c.args in rw (kind_2 a.x.now a.k a.a a.b a.c c.in-2.is) c.text_item.ensures

pub returns-in-3 : goal.returns-in-3
returns-in-3 c =
    let a = c.args in rw (kind_3 a.x.now a.k a.a a.b a.c c.in-3.is) c.text_item-in-3.ensures

pub returns-in-4 : goal.returns-in-4
returns-in-4 c =
    let a = c.args in rw (kind_4 a.x.now a.k a.a a.b a.c c.in-4.is) (c.operator_item.ensures a.x.now)

pub returns-in_default : goal.returns-in_default
returns-in_default c =
    let a = c.args in kind_none a.x.now a.k a.a a.b a.c (λ e. omega arith) (λ e. omega arith) (λ e. omega arith) (λ e. omega arith)
