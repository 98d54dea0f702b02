use Rattle.rides.proofs.Riding.{goes_as, body_as, busy_held, low_held, left_there, found_as, do_found, if_found, over_some, next_inside, rode, good_row, bytes_row, rode_beyond, beyond_fits, led_paced, fails_row, led_on, led_alights, led_idle}
use Rattle.machine.proofs.Inside.{solid_past}
use Rattle.rides.proofs.Holding.{over_role, if_role}
use Rattle.literals.proofs.Finding.{body_fits}
use Rattle.literals.proofs.Standing.{stands_ends, ends_solid}
use Rattle.sprints.proofs.Rows.{place_fits}
use Rattle.origins.proofs.ByOrigin.{bytes_short}
use Rattle.names.specs.Names.{both}
use Rattle.machine.specs.Literal.{bytes_of}
use mathlib.Core.Path.{refl, sym, ap, ◌∙◌}
use native.Mathlib.Omega.{arith}
use Rattle.rides.proofs.ride.Goals as goal

pub row-t-requires : goal.row-t-requires
row-t-requires c =
    rw c.counted.ensures ((rw c.bytes_of-b.ensures (bytes_short _ _ c.seat_of-s.result.origin c.requires.5)), busy_held _ c.requires.0 c.requires.1 c.requires.4, c.requires.2, c.seat_of-s.ensures.2, low_held _ c.args.r, left_there (both c.args.pre.now c.args.body.now) _ c.args.r _ _ _ c.requires.7 c.requires.1 (c.bytes_of-b.ensures ∙ ap (bytes_of (both c.args.pre.now c.args.body.now)) c.seat_of-s.ensures.0) c.seat_of-s.ensures.1 c.seat_of-s.ensures.2)

pub overflow_add-q : goal.overflow_add-q
overflow_add-q c = omega (arith, c.requires.4, c.row-t.ensures.0)

pub pace_fault-z-requires : goal.pace_fault-z-requires
pace_fault-z-requires c =
    (good_row (rode _ _ c.args.r _ c.seat_of-s.result c.requires.0 c.requires.1 c.requires.2 c.counted.ensures c.bytes_of-b.ensures c.seat_of-s.ensures c.row-t.ensures.0 c.row-t.ensures.4), c.requires.1, omega (arith, c.requires.4, c.row-t.ensures.0), place_fits _ _ _ c.past_comments.ensures (c.row-t.ensures.3 c.if-t.true).2 (rw c.bytes_of-b.ensures (bytes_short _ _ c.seat_of-s.result.origin c.requires.5)))

pub returns-then-t : goal.returns-then-t
returns-then-t c =
    (led_paced (rode _ _ c.args.r _ c.seat_of-s.result c.requires.0 c.requires.1 c.requires.2 c.counted.ensures c.bytes_of-b.ensures c.seat_of-s.ensures c.row-t.ensures.0 c.row-t.ensures.4) _ _ ((rode _ _ c.args.r _ c.seat_of-s.result c.requires.0 c.requires.1 c.requires.2 c.counted.ensures c.bytes_of-b.ensures c.seat_of-s.ensures c.row-t.ensures.0 c.row-t.ensures.4).row.falls c.if-t.true).0 (found_as _ _ _ (c.row-t.ensures.3 c.if-t.true).1 c.past_comments.ensures) (c.pace_fault-z.ensures _ _ (fails_row (rode _ _ c.args.r _ c.seat_of-s.result c.requires.0 c.requires.1 c.requires.2 c.counted.ensures c.bytes_of-b.ensures c.seat_of-s.ensures c.row-t.ensures.0 c.row-t.ensures.4) _ c.if-t.true)) (c.row-t.ensures.3 c.if-t.true).0, c.requires.6)

pub pace_do-z-requires : goal.pace_do-z-requires
pace_do-z-requires c =
    (good_row (rode _ _ c.args.r _ c.seat_of-s.result c.requires.0 c.requires.1 c.requires.2 c.counted.ensures c.bytes_of-b.ensures c.seat_of-s.ensures c.row-t.ensures.0 c.row-t.ensures.4), c.requires.1, omega (arith, c.requires.4, c.row-t.ensures.0), c.requires.5, place_fits _ _ _ c.past_comments-then-t-eq231.ensures (next_inside _ _ _ _ (c.row-t.ensures.2 (λ z. absurd (omega (arith, c.if-t-eq231.true)))).1) (rw c.bytes_of-b.ensures (bytes_short _ _ c.seat_of-s.result.origin c.requires.5)))

pub returns-then-t-eq231 : goal.returns-then-t-eq231
returns-then-t-eq231 c =
    (led_paced (rode _ _ c.args.r _ c.seat_of-s.result c.requires.0 c.requires.1 c.requires.2 c.counted.ensures c.bytes_of-b.ensures c.seat_of-s.ensures c.row-t.ensures.0 c.row-t.ensures.4) _ _ ((rode _ _ c.args.r _ c.seat_of-s.result c.requires.0 c.requires.1 c.requires.2 c.counted.ensures c.bytes_of-b.ensures c.seat_of-s.ensures c.row-t.ensures.0 c.row-t.ensures.4).row.here (λ z. absurd (omega (arith, c.if-t-eq231.true)))) (do_found _ _ _ _ _ (c.row-t.ensures.2 (λ z. absurd (omega (arith, c.if-t-eq231.true)))).1 c.if-t-eq231.true c.past_comments-then-t-eq231.ensures) c.pace_do-z.ensures (c.row-t.ensures.2 (λ z. absurd (omega (arith, c.if-t-eq231.true)))).0, c.requires.6)

pub span_end-end-requires : goal.span_end-end-requires
span_end-end-requires c =
    (c.requires.5, c.requires.6, rw (← c.bytes_of-b.ensures) (ends_solid _ _ _ c.past_comments-brace.ensures (stands_ends _ _ _ (c.row-t.ensures.2 (λ z. absurd (omega (arith, c.if-t-eq239.true)))).2 (c.row-t.ensures.2 (λ z. absurd (omega (arith, c.if-t-eq239.true)))).1 (if_role _ c.if-t-eq239.true))))

pub pace_if-requires : goal.pace_if-requires
pace_if-requires c =
    let f = body_fits _ _ _ _ refl (body_as _ c.bytes_of-b.ensures c.span_end-end.ensures.0) in (good_row (rode _ _ c.args.r _ c.seat_of-s.result c.requires.0 c.requires.1 c.requires.2 c.counted.ensures c.bytes_of-b.ensures c.seat_of-s.ensures c.row-t.ensures.0 c.row-t.ensures.4), c.requires.1, omega (arith, c.requires.4, c.row-t.ensures.0), (rw c.bytes_of-b.ensures (bytes_short _ _ c.seat_of-s.result.origin c.requires.5)), omega (arith, f.0, solid_past c.bytes_of-b.result.now c.past_comments-brace.result), f.1)

pub shape_of-w-then-t-eq239 : goal.shape_of-w-then-t-eq239
shape_of-w-then-t-eq239 c = omega (arith, c.w-then-t-eq239-1.given, c.w-1.given)

pub returns-then-t-eq239 : goal.returns-then-t-eq239
returns-then-t-eq239 c =
    (led_paced (rode _ _ c.args.r _ c.seat_of-s.result c.requires.0 c.requires.1 c.requires.2 c.counted.ensures c.bytes_of-b.ensures c.seat_of-s.ensures c.row-t.ensures.0 c.row-t.ensures.4) _ _ ((rode _ _ c.args.r _ c.seat_of-s.result c.requires.0 c.requires.1 c.requires.2 c.counted.ensures c.bytes_of-b.ensures c.seat_of-s.ensures c.row-t.ensures.0 c.row-t.ensures.4).row.here (λ z. absurd (omega (arith, c.if-t-eq239.true)))) (if_found _ _ _ _ _ _ (c.row-t.ensures.2 (λ z. absurd (omega (arith, c.if-t-eq239.true)))).1 c.if-t-eq239.true c.past_comments-brace.ensures (body_as _ c.bytes_of-b.ensures c.span_end-end.ensures.0)) (c.pace_if.ensures _ (bytes_row (rode _ _ c.args.r _ c.seat_of-s.result c.requires.0 c.requires.1 c.requires.2 c.counted.ensures c.bytes_of-b.ensures c.seat_of-s.ensures c.row-t.ensures.0 c.row-t.ensures.4))) (c.row-t.ensures.2 (λ z. absurd (omega (arith, c.if-t-eq239.true)))).0, c.span_end-end.ensures.1)

pub past_held-u-requires : goal.past_held-u-requires
past_held-u-requires c =
    (c.requires.5, c.requires.6, λ o. let k = c.row-t.ensures.2 (over_some _ o) in (k.0, rw (← c.bytes_of-b.ensures) (stands_ends _ _ _ k.2 k.1 (over_role _ o))))

pub returns-then-u-most : goal.returns-then-u-most
returns-then-u-most c =
    (led_idle (rode _ _ c.args.r _ c.seat_of-s.result c.requires.0 c.requires.1 c.requires.2 c.counted.ensures c.bytes_of-b.ensures c.seat_of-s.ensures c.row-t.ensures.0 c.row-t.ensures.4) (omega (arith, c.if-u-most.true, c.row-t.ensures.0, (goes_as c.bytes_of-b.ensures c.past_held-u.ensures.0).fewer)) c.requires.3, c.past_held-u.ensures.1)

pub overflow_sub-q-2 : goal.overflow_sub-q-2
overflow_sub-q-2 c = omega (arith, c.row-t.ensures.0, (goes_as c.bytes_of-b.ensures c.past_held-u.ensures.0).fewer)

pub overflow_add-q-2 : goal.overflow_add-q-2
overflow_add-q-2 c = omega (arith, c.requires.4)

pub alight-z-requires : goal.alight-z-requires
alight-z-requires c =
    (good_row (rode_beyond (rode _ _ c.args.r _ c.seat_of-s.result c.requires.0 c.requires.1 c.requires.2 c.counted.ensures c.bytes_of-b.ensures c.seat_of-s.ensures c.row-t.ensures.0 c.row-t.ensures.4) _ (goes_as c.bytes_of-b.ensures c.past_held-u.ensures.0) (λ k. (c.row-t.ensures.2 k).1)), c.requires.1, c.requires.2, omega (arith, c.requires.0.errors_fit, c.row-t.ensures.0, (goes_as c.bytes_of-b.ensures c.past_held-u.ensures.0).fewer, c.if-u-most.false), omega (arith, c.requires.4), (rw c.bytes_of-b.ensures (bytes_short _ _ c.seat_of-s.result.origin c.requires.5)), beyond_fits (rode _ _ c.args.r _ c.seat_of-s.result c.requires.0 c.requires.1 c.requires.2 c.counted.ensures c.bytes_of-b.ensures c.seat_of-s.ensures c.row-t.ensures.0 c.row-t.ensures.4) _ (goes_as c.bytes_of-b.ensures c.past_held-u.ensures.0) (λ k. (c.row-t.ensures.2 k).1) (omega (arith, c.row-t.ensures.0, (goes_as c.bytes_of-b.ensures c.past_held-u.ensures.0).fewer, c.if-u-most.false)) c.row-t.ensures.1, c.seat_of-s.ensures.2 ∙ sym (rode _ _ c.args.r _ c.seat_of-s.result c.requires.0 c.requires.1 c.requires.2 c.counted.ensures c.bytes_of-b.ensures c.seat_of-s.ensures c.row-t.ensures.0 c.row-t.ensures.4).row.ends)

pub shape_of-w-then-u-eq0 : goal.shape_of-w-then-u-eq0
shape_of-w-then-u-eq0 c = omega (arith, c.w-2-1.given, c.w-1.given)

pub returns-then-u-eq0 : goal.returns-then-u-eq0
returns-then-u-eq0 c =
    (rw c.on.ensures (led_on (rode_beyond (rode _ _ c.args.r _ c.seat_of-s.result c.requires.0 c.requires.1 c.requires.2 c.counted.ensures c.bytes_of-b.ensures c.seat_of-s.ensures c.row-t.ensures.0 c.row-t.ensures.4) _ (goes_as c.bytes_of-b.ensures c.past_held-u.ensures.0) (λ k. (c.row-t.ensures.2 k).1)) c.alight-z.ensures (omega (arith, c.row-t.ensures.0, (goes_as c.bytes_of-b.ensures c.past_held-u.ensures.0).fewer, c.if-u-most.false))), c.past_held-u.ensures.1)

pub shape_of-w-then-u-t : goal.shape_of-w-then-u-t
shape_of-w-then-u-t c = omega (arith, c.w-2-1.given, c.w-1.given)

pub returns-then-u-t : goal.returns-then-u-t
returns-then-u-t c =
    (rw c.on-then-u-t.ensures (led_on (rode_beyond (rode _ _ c.args.r _ c.seat_of-s.result c.requires.0 c.requires.1 c.requires.2 c.counted.ensures c.bytes_of-b.ensures c.seat_of-s.ensures c.row-t.ensures.0 c.row-t.ensures.4) _ (goes_as c.bytes_of-b.ensures c.past_held-u.ensures.0) (λ k. (c.row-t.ensures.2 k).1)) c.alight-z.ensures (omega (arith, c.row-t.ensures.0, (goes_as c.bytes_of-b.ensures c.past_held-u.ensures.0).fewer, c.if-u-most.false))), c.past_held-u.ensures.1)

pub shape_of-w : goal.shape_of-w
shape_of-w c = omega (arith, c.w-2-1.given, c.w-1.given)

pub returns : goal.returns
returns c =
    (led_alights (rode_beyond (rode _ _ c.args.r _ c.seat_of-s.result c.requires.0 c.requires.1 c.requires.2 c.counted.ensures c.bytes_of-b.ensures c.seat_of-s.ensures c.row-t.ensures.0 c.row-t.ensures.4) _ (goes_as c.bytes_of-b.ensures c.past_held-u.ensures.0) (λ k. (c.row-t.ensures.2 k).1)) _ c.alight-z.ensures (omega (arith, c.row-t.ensures.0, (goes_as c.bytes_of-b.ensures c.past_held-u.ensures.0).fewer, c.if-u-most.false)) (omega arith), c.past_held-u.ensures.1)
