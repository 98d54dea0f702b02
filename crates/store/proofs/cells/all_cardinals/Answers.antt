-- `cells::all_cardinals` meets its contract. Assumes nothing.
use mathlib.Core.Path.{◌≡◌, sym, ◌∙◌}
use Prim.Native.Nat.{◌-◌, ◌+◌}
use native.Mathlib.Numerals.{add-one}
use native.Mathlib.Omega.{arith}
use Rattle.table.specs.Slots.{slots}
use Rattle.store.proofs.Cardinals.{cells_there, none_due, cardinal_on, cardinal_not}
use Rattle.store.proofs.cells.all_cardinals.Goals as goal

pub loop-k-init : goal.loop-k-init
loop-k-init c =
    let a = c.args in cells_there (slots a.w.now) a.used a.first a.count _ (omega (arith, c.min-end.ensures, c.saturating_add.ensures))

pub returns-then-not-is_cardinal : goal.returns-then-not-is_cardinal
returns-then-not-is_cardinal c =
    let o = c.loop-k in
    sym (cardinal_not (slots c.args.w.now) c.args.used o.k (c.min-end.result - o.k) (omega arith) c.is_cardinal.result (rw c.get.ensures at c.is_cardinal.ensures) (λ e. omega arith) c.if-not-is_cardinal.true) ∙ o.invariant

pub loop-k-preserved : goal.loop-k-preserved
loop-k-preserved c =
    let o = c.loop-k in
    let e : c.min-end.result - (o.k + 1) ≡ c.min-end.result - o.k - 1 = omega arith in
    rw (e, add-one o.k) (sym (cardinal_on (slots c.args.w.now) c.args.used o.k (c.min-end.result - o.k) (omega arith) c.is_cardinal.result (rw c.get.ensures at c.is_cardinal.ensures) (λ e. omega arith) c.if-not-is_cardinal.false) ∙ o.invariant)

pub returns : goal.returns
returns c =
    let o = c.loop-k in sym (none_due (slots c.args.w.now) c.args.used o.k (c.min-end.result - o.k) (omega arith)) ∙ o.invariant
