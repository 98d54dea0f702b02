-- `writing::measure` meets its contract: a turn of the first pass, proofs/Passes.antt. Assumes nothing.
use Rattle.std.specs.Prelude.{Err, Some}
use Rattle.std.proofs.Common.{ap, ◌∙◌, ◌+◌, arith}
use Rattle.items.specs.Listing.{entry_at}
use Rattle.items.specs.Judged.{Judged}
use Rattle.lists.proofs.Sizes.{small_item}
use Rattle.lists.proofs.Passes.{measuring_start, measuring_end, measuring_wrong, measuring_on}
use Rattle.lists.proofs.writing.measure.Goals as goal
use Rattle.lists.proofs.writing.measure.Goals.{In-Some}

judged : (c : In-Some) → Judged c.args.text.now (entry_at c.args.list.now c.args.text.now c.loop-at.at) (Some c.in-Some.item)
judged c = rw c.in-Some.is at c.item_at.ensures

pub loop-at-init : goal.loop-at-init
loop-at-init c = measuring_start c.args.list.now c.args.text.now

pub item_at-requires : goal.item_at-requires
item_at-requires c = omega arith

pub returns-in_default : goal.returns-in_default
returns-in_default c =
    let a = c.args in
    let o = c.loop-at in
    ap Err c.met_at.ensures ∙ measuring_wrong a.list.now a.text.now o.at o.total o.invariant (omega arith) (rw c.in_default.is at c.item_at.ensures)

pub size_of-requires : goal.size_of-requires
size_of-requires c = small_item c.args.text.now c.in-Some.item (judged (goal.at.size_of-requires c).In-Some).good

pub overflow_add-total : goal.overflow_add-total
overflow_add-total c = omega (arith, c.size_of.ensures.1, c.loop-at.invariant.low)

pub loop-at-smaller : goal.loop-at-smaller
loop-at-smaller c = omega arith

pub loop-at-preserved : goal.loop-at-preserved
loop-at-preserved c =
    let a = c.args in
    let o = c.loop-at in
    measuring_on a.list.now a.text.now o.at o.total o.invariant (omega arith) _ (judged (goal.at.loop-at-preserved c).In-Some) _ c.size_of.ensures.0 _
    c.cap-total.ensures

-- the last item is judged, and no place is left
pub returns-in-Some : goal.returns-in-Some
returns-in-Some c =
    let a = c.args in
    let o = c.loop-at in
    let j = judged (goal.at.returns-in-Some c).In-Some in
    measuring_end a.list.now a.text.now (o.at + 16) c.cap-total.result
    (measuring_on a.list.now a.text.now o.at o.total o.invariant (omega arith) _ j _ c.size_of.ensures.0 _ c.cap-total.ensures) (omega arith)

pub returns : goal.returns
returns c =
    let a = c.args in let o = c.loop-at in measuring_end a.list.now a.text.now o.at o.total o.invariant (omega arith)
