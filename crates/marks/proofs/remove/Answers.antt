-- `remove` meets its contract. Assumes nothing.
use borrow.Author.Rules.{rules}
use mathlib.Core.Path.{refl}
use Rattle.marks.proofs.Marking.{remove_bare, remove_few, remove_value, remove_other, remove_yes}
use Rattle.marks.proofs.remove.Goals as goal

pub returns-then-n-height : goal.returns-then-n-height
returns-then-n-height c = search (rules, remove_bare)

pub returns-then-v-ne5 : goal.returns-then-v-ne5
returns-then-v-ne5 c = search (rules, remove_value)

pub returns-then-v-c : goal.returns-then-v-c
returns-then-v-c c =
    remove_other _ c.requires _ c.has-there.ensures c.if-there.true _ c.get-v.ensures c.if-n-height.false c.if-v-ne5.false _ c.get-c.ensures c.if-v-c.true refl

pub returns-then-there : goal.returns-then-there
returns-then-there c =
    remove_yes _ c.requires _ c.has-there.ensures c.if-there.true _ c.get-v.ensures c.if-n-height.false c.if-v-ne5.false _ c.get-c.ensures c.if-v-c.false c.copy.ensures refl

pub returns : goal.returns
returns c = search (rules, remove_few)
