use Rattle.engine.proofs.Leading.{here_at, unmark_step, skip_step, still_skips, legible_then, after_inv, after_led, led_all}
use Rattle.sprints.proofs.Swiftly.{none_run}
use Rattle.paces.proofs.Pacing.{stands_now, done_same, stepped_same}
use Rattle.origins.proofs.ByOrigin.{bytes_short, ahead_fits}
use mathlib.Core.Path.{refl, ◌∙◌}
use native.Mathlib.Omega.{arith}
use borrow.Author.Rules.{rules}
use Rattle.engine.proofs.steps.pass.Goals as goal

pub loop-left-init : goal.loop-left-init
loop-left-init c = (search rules, refl, c.requires.2, refl, refl, omega arith, refl, none_run _ _ _)

pub running-c-requires : goal.running-c-requires
running-c-requires c = (c.requires.1, omega (arith, c.requires.0.depth_fits), omega (arith, c.loop-left.invariant.0.room))

pub ahead-d-requires : goal.ahead-d-requires
ahead-d-requires c =
    ((rw c.bytes_of-b.ensures (bytes_short _ _ c.running-c.result.origin c.requires.5)), stands_now _ c.loop-left.r _ _ _ c.running-c.result _ (legible_then _ _ c.requires.6 c.loop-left.invariant.7) (rw c.loop-left.invariant.1 c.requires.1) (here_at _ c.loop-left.r _ _ c.loop-left.invariant.1 c.running-c.ensures) c.bytes_of-b.ensures c.size.ensures.0)

pub unmark-requires : goal.unmark-requires
unmark-requires c =
    (c.loop-left.invariant.0, (rw c.loop-left.invariant.1 c.requires.1), omega (arith, c.loop-left.invariant.4, c.requires.4, c.loop-left.invariant.5), ahead_fits _ _ _ (rw c.bytes_of-b.ensures (bytes_short _ _ c.running-c.result.origin c.requires.5)) c.ahead-d.ensures)

pub shape_of-w-then-d : goal.shape_of-w-then-d
shape_of-w-then-d c = omega (arith, c.w-1.given, c.loop-left.invariant.3)

pub returns-then-d : goal.returns-then-d
returns-then-d c =
    after_led _ _ _ _ c.args.start _ _ _ (rw c.loop-left.invariant.1 c.requires.1) c.loop-left.invariant.5 c.loop-left.invariant.4 c.loop-left.invariant.6 c.loop-left.invariant.7 c.loop-left-test.true (stepped_same refl c.afresh.ensures (unmark_step _ c.loop-left.r _ _ _ c.running-c.result _ _ c.ahead-d.result (here_at _ c.loop-left.r _ _ c.loop-left.invariant.1 c.running-c.ensures) c.bytes_of-b.ensures c.size.ensures.0 c.ahead-d.ensures c.if-d.true refl (c.unmark.ensures _)))

pub word-requires : goal.word-requires
word-requires c =
    ahead_fits _ _ _ (rw c.bytes_of-b.ensures (bytes_short _ _ c.running-c.result.origin c.requires.5)) c.ahead-d.ensures

pub begin-q-requires : goal.begin-q-requires
begin-q-requires c =
    (c.loop-left.invariant.0, (rw c.loop-left.invariant.1 c.requires.1), omega (arith, c.loop-left.invariant.4, c.requires.4, c.loop-left.invariant.5))

pub skipped-requires : goal.skipped-requires
skipped-requires c = (c.begin-q.ensures.busy, c.begin-q.ensures.skips ∙ c.loop-left.invariant.2)

pub overflow_sub-left : goal.overflow_sub-left
overflow_sub-left c = omega (arith, c.loop-left-test.true)

pub loop-left-smaller : goal.loop-left-smaller
loop-left-smaller c = omega (arith, c.loop-left-test.true)

pub loop-left-preserved : goal.loop-left-preserved
loop-left-preserved c =
    let made = (skip_step _ c.loop-left.r _ _ _ c.running-c.result _ c.word.result c.ahead-d.result (here_at _ c.loop-left.r _ _ c.loop-left.invariant.1 c.running-c.ensures) c.bytes_of-b.ensures c.size.ensures.0 c.ahead-d.ensures c.if-d.false c.word.ensures c.begin-q.ensures c.loop-left.invariant.2 (done_same c.afresh-r.ensures c.skipped.ensures)) in (made.good, c.if-r-depth.true, still_skips (done_same c.afresh-r.ensures c.skipped.ensures) (c.begin-q.ensures.skips ∙ c.loop-left.invariant.2), omega (arith, c.w-in-loop-left-1.given, c.loop-left.invariant.3), omega (arith, made.counted, c.loop-left.invariant.4, c.loop-left-test.true), omega (arith, c.loop-left.invariant.5), made.keeps ∙ c.loop-left.invariant.6, after_inv _ _ _ _ c.args.start _ _ _ (rw c.loop-left.invariant.1 c.requires.1) c.loop-left.invariant.5 c.loop-left.invariant.4 c.loop-left.invariant.6 c.loop-left.invariant.7 c.loop-left-test.true made)

pub shape_of-w-in-loop-left : goal.shape_of-w-in-loop-left
shape_of-w-in-loop-left c = omega (arith, c.w-in-loop-left-1.given, c.loop-left.invariant.3)

pub returns-in-loop-left : goal.returns-in-loop-left
returns-in-loop-left c =
    after_led _ _ _ _ c.args.start _ _ _ (rw c.loop-left.invariant.1 c.requires.1) c.loop-left.invariant.5 c.loop-left.invariant.4 c.loop-left.invariant.6 c.loop-left.invariant.7 c.loop-left-test.true (skip_step _ c.loop-left.r _ _ _ c.running-c.result _ c.word.result c.ahead-d.result (here_at _ c.loop-left.r _ _ c.loop-left.invariant.1 c.running-c.ensures) c.bytes_of-b.ensures c.size.ensures.0 c.ahead-d.ensures c.if-d.false c.word.ensures c.begin-q.ensures c.loop-left.invariant.2 (done_same c.afresh-r.ensures c.skipped.ensures))

pub shape_of-w : goal.shape_of-w
shape_of-w c = c.loop-left.invariant.3

pub returns : goal.returns
returns c =
    led_all _ _ _ _ c.args.start _ _ _ (rw c.loop-left.invariant.1 c.requires.1) c.loop-left.invariant.5 c.loop-left.invariant.4 c.loop-left.invariant.6 c.loop-left.invariant.7 c.loop-left.invariant.0 c.requires.3 c.loop-left-test.false
