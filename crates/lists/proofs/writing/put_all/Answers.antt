-- `writing::put_all` meets its contract: a turn of the second pass, proofs/Passes.antt. Assumes nothing.
use Rattle.std.specs.Prelude.{Some}
use Rattle.std.proofs.Common.{◌+◌, length, arith}
use Rattle.tokens.specs.Format.{header}
use Rattle.items.specs.Listing.{entry_at, listed}
use Rattle.items.specs.Judged.{Judged}
use Rattle.lists.proofs.Passes.{putting_start, putting_end, putting_some, putting_room, putting_on, fits_start}
use Rattle.lists.proofs.writing.put_all.Goals as goal
use Rattle.lists.proofs.writing.put_all.Goals.{After-unwrap-item}

judged : (c : After-unwrap-item) → Judged c.args.text.now (entry_at c.args.list.now c.args.text.now c.loop-at.at) (Some c.unwrap-item.result)
judged c = rw c.unwrap-item.ensures at c.item_at.ensures

pub copy-requires : goal.copy-requires
copy-requires c = fits_start (listed c.args.list.now c.args.text.now) (length c.args.out.now) c.requires

pub loop-at-init : goal.loop-at-init
loop-at-init c = putting_start c.args.list.now c.args.text.now _

pub item_at-requires : goal.item_at-requires
item_at-requires c = omega arith

pub unwrap-item-requires : goal.unwrap-item-requires
unwrap-item-requires c =
    let a = c.args in
    let o = c.loop-at in
    putting_some a.list.now a.text.now c.copy.new.out o.out o.at o.o o.invariant (omega arith) (length a.out.now) c.requires _ c.item_at.ensures

pub put_item-o-requires : goal.put_item-o-requires
put_item-o-requires c =
    let a = c.args in
    let o = c.loop-at in
    let j = judged (goal.at.put_item-o-requires c).After-unwrap-item in
    putting_room a.list.now a.text.now c.copy.new.out o.out o.at o.o o.invariant (omega arith) (length a.out.now) c.requires c.unwrap-item.result j
    (omega (arith, c.copy.auto))

pub loop-at-smaller : goal.loop-at-smaller
loop-at-smaller c = omega arith

pub loop-at-preserved : goal.loop-at-preserved
loop-at-preserved c =
    let a = c.args in
    let o = c.loop-at in
    let j = judged (goal.at.loop-at-preserved c).After-unwrap-item in
    putting_on a.list.now a.text.now c.copy.new.out o.out o.at o.o o.invariant (omega arith) (length a.out.now) c.requires c.unwrap-item.result j _ _
    c.put_item-o.ensures (omega (arith, c.put_item-o.auto))

pub shape_of-out : goal.shape_of-out
shape_of-out c = omega (arith, c.loop-at.invariant.kept, c.copy.auto)

-- the last item is put, and no place is left
pub returns-2 : goal.returns-2
unfolding header
returns-2 c =
    let a = c.args in
    let o = c.loop-at in
    let j = judged (goal.at.returns-2 c).After-unwrap-item in
    let put =
    putting_on a.list.now a.text.now c.copy.new.out o.out o.at o.o o.invariant (omega arith) (length a.out.now) c.requires c.unwrap-item.result j _ _
    c.put_item-o.ensures (omega (arith, c.put_item-o.auto)) in
    putting_end a.list.now a.text.now c.copy.new.out c.put_item-o.new.out (o.at + 16) c.put_item-o.result put (omega arith) a.out.now c.copy.ensures

pub returns : goal.returns
unfolding header
returns c =
    let a = c.args in let o = c.loop-at in putting_end a.list.now a.text.now c.copy.new.out o.out o.at o.o o.invariant (omega arith) a.out.now c.copy.ensures
