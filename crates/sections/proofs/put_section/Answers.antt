-- `put_section` meets its contract. Assumes nothing.
use borrow.Author.Rules.{rules}
use mathlib.Core.Path.{refl}
use Prim.Native.Nat.{◌+◌}
use Rattle.table.specs.Slots.{slots}
use Rattle.sections.proofs.Showing.{section_none, section_more, section_whole}
use native.Mathlib.Omega.{arith}
use Rattle.sections.proofs.put_section.Goals as goal

pub loop-i-init : goal.loop-i-init
loop-i-init c = search (rules, section_none)

pub loop-i-preserved : goal.loop-i-preserved
loop-i-preserved c =
    let a = c.args in let o = c.loop-i in (search rules, section_more a.marks (slots a.w.now) a.first _ _ _ (a.p + 4) o.i _ _ o.invariant.1 c.get-v.ensures c.shown.ensures c.emit.ensures)

pub returns : goal.returns
returns c =
    let a = c.args in (refl, section_whole a.marks (slots a.w.now) a.first _ _ _ a.p a.n _ _ c.word.ensures c.put_word.ensures (omega arith) c.loop-i.invariant.1)
