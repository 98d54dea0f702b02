-- `steps::run_noting` meets its contract. Assumes nothing.
use borrow.Author.Rules.{rules}
use mathlib.Core.Path.{refl, sym, ◌∙◌}
use native.Mathlib.Omega.{arith}
use Rattle.engine.proofs.Leading.{legible_then, run_whole, run_onward, run_out, run_ended}
use Rattle.engine.proofs.steps.run_noting.Goals as goal

pub overflow_add-last : goal.overflow_add-last
overflow_add-last c = omega (arith, c.requires.1)

pub loop-r-init : goal.loop-r-init
loop-r-init c = (search rules, refl, omega arith, refl, run_whole _ _ _ _, c.requires.3, refl, refl, c.requires.4)

pub shape_of-w-then-r-eq0 : goal.shape_of-w-then-r-eq0
shape_of-w-then-r-eq0 c = c.loop-r.invariant.1

pub shape_of-early-then-r-eq0 : goal.shape_of-early-then-r-eq0
shape_of-early-then-r-eq0 c = c.loop-r.invariant.6

pub shape_of-notes-then-r-eq0 : goal.shape_of-notes-then-r-eq0
shape_of-notes-then-r-eq0 c = c.loop-r.invariant.7

pub returns-then-r-eq0 : goal.returns-then-r-eq0
returns-then-r-eq0 c =
    record { good = c.loop-r.invariant.0; does = run_ended _ _ _ _ c.loop-r.r c.loop-r.invariant.4 (omega (arith, c.loop-r-test.true)) (omega (arith, c.if-r-eq0.true)); keeps = c.loop-r.invariant.3; counted = c.loop-r.invariant.2 }

pub overflow_sub-last : goal.overflow_sub-last
overflow_sub-last c = c.loop-r.invariant.2

pub onward-q-requires : goal.onward-q-requires
onward-q-requires c =
    (c.loop-r.invariant.0, omega (arith, c.if-r-eq0.false), omega (arith, c.loop-r-test.true), omega (arith, c.loop-r.invariant.2, c.requires.1), c.requires.2, c.loop-r.invariant.5, c.loop-r.invariant.8)

pub loop-r-smaller : goal.loop-r-smaller
loop-r-smaller c =
    rw c.afresh-r.ensures (omega (arith, c.onward-q.ensures.0.some, c.onward-q.ensures.0.within, c.loop-r-test.true))

pub loop-r-preserved : goal.loop-r-preserved
loop-r-preserved c =
    rw c.afresh-r.ensures (c.onward-q.ensures.0.good, omega (arith, c.w-1.given, c.loop-r.invariant.1), omega (arith, c.onward-q.ensures.0.within, c.loop-r.invariant.2), c.onward-q.ensures.0.keeps ∙ c.loop-r.invariant.3, run_onward _ c.loop-r.invariant.4 c.onward-q.ensures.0, c.onward-q.ensures.1, omega (arith, c.early-1.given, c.loop-r.invariant.6), omega (arith, c.notes-1.given, c.loop-r.invariant.7), legible_then _ _ c.loop-r.invariant.8 (sym c.onward-q.ensures.0.does))

pub shape_of-w : goal.shape_of-w
shape_of-w c = c.loop-r.invariant.1

pub shape_of-early : goal.shape_of-early
shape_of-early c = c.loop-r.invariant.6

pub shape_of-notes : goal.shape_of-notes
shape_of-notes c = c.loop-r.invariant.7

pub returns : goal.returns
returns c =
    record { good = c.loop-r.invariant.0; does = run_out _ _ _ _ c.loop-r.r c.loop-r.invariant.4 (omega (arith, c.loop-r-test.false)); keeps = c.loop-r.invariant.3; counted = c.loop-r.invariant.2 }
