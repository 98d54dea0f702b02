use Rattle.spans.proofs.SpanTurns.{where_first, where_reads, where_opens, closes_one, closes_noted, closes_last, closes_on, where_on, over_inside}
use Rattle.spans.proofs.SpanTurns.{long_pair, long_token, no_brace, note_long, end_fits, note_kept, few_where, operator_over}
use Rattle.passing.proofs.Knowing.{stands}
use lib.ListN.{length}
use mathlib.Core.Path.{refl, sym, ap, ◌∙◌}
use native.Mathlib.Omega.{arith}
use Rattle.spans.proofs.pass.Goals as goal

pub loop-p-init : goal.loop-p-init
loop-p-init c = (where_first _ _, c.requires.1, refl)

pub bounds-s-p : goal.bounds-s-p
bounds-s-p c = stands _ c.loop-p.p (where_reads c.requires.2 _ c.loop-p.invariant.0)

pub past-p-requires : goal.past-p-requires
past-p-requires c = where_reads c.requires.2 _ c.loop-p.invariant.0

pub loop-p-smaller-then-s-p : goal.loop-p-smaller-then-s-p
loop-p-smaller-then-s-p c = let g = over_inside c.args.s.now c.loop-p.p _ c.past-p.ensures in omega (arith, g.0, g.1)

pub loop-p-preserved-then-s-p : goal.loop-p-preserved-then-s-p
loop-p-preserved-then-s-p c =
    let i = c.loop-p.invariant in (where_on c.requires.2 _ i.0 _ c.past-p.ensures (no_brace _ _ c.if-s-p.true), i.1, i.2)

-- ---- an operator by its two bytes

pub overflow_add-n : goal.overflow_add-n
overflow_add-n c = omega (arith, long_pair c.requires.2 _ c.loop-p.invariant.0 c.if-s-p.false, c.well_formed)

pub bounds-s-p-in-loop-p : goal.bounds-s-p-in-loop-p
bounds-s-p-in-loop-p c = long_pair c.requires.2 _ c.loop-p.invariant.0 c.if-s-p.false

pub overflow_add-next : goal.overflow_add-next
overflow_add-next c = omega (arith, long_pair c.requires.2 _ c.loop-p.invariant.0 c.if-s-p.false, c.well_formed)

-- ---- `{`

pub offset_bounds-starts-count : goal.offset_bounds-starts-count
offset_bounds-starts-count c =
    let i = c.loop-p.invariant in
    let t = long_token c.requires.2 _ i.0 c.if-s-p.false (sym c.if-n-eq-OPEN.true) refl in
    omega (arith, (where_opens c.requires.2 _ i.0 t).0)

pub bounds-starts-count : goal.bounds-starts-count
bounds-starts-count c =
    let i = c.loop-p.invariant in
    let t = long_token c.requires.2 _ i.0 c.if-s-p.false (sym c.if-n-eq-OPEN.true) refl in
    omega (arith, (where_opens c.requires.2 _ i.0 t).0)

pub overflow_add-count : goal.overflow_add-count
overflow_add-count c =
    let i = c.loop-p.invariant in
    let t = long_token c.requires.2 _ i.0 c.if-s-p.false (sym c.if-n-eq-OPEN.true) refl in
    omega (arith, (where_opens c.requires.2 _ i.0 t).0)

pub loop-p-smaller-then-n-eq-OPEN : goal.loop-p-smaller-then-n-eq-OPEN
loop-p-smaller-then-n-eq-OPEN c = omega (arith, long_pair c.requires.2 _ c.loop-p.invariant.0 c.if-s-p.false)

pub loop-p-preserved-then-n-eq-OPEN : goal.loop-p-preserved-then-n-eq-OPEN
loop-p-preserved-then-n-eq-OPEN c =
    let i = c.loop-p.invariant in
    let t = long_token c.requires.2 _ i.0 c.if-s-p.false (sym c.if-n-eq-OPEN.true) refl in
    ((where_opens c.requires.2 _ i.0 t).1, i.1, i.2)

-- ---- `}`

pub overflow_sub-count : goal.overflow_sub-count
overflow_sub-count c =
    let i = c.loop-p.invariant in
    closes_one c.requires.2 _ i.0 (long_token c.requires.2 _ i.0 c.if-s-p.false (sym c.if-n-eq-CLOSE.true) refl)

pub offset_bounds-starts-count-then-n-eq-CLOSE : goal.offset_bounds-starts-count-then-n-eq-CLOSE
offset_bounds-starts-count-then-n-eq-CLOSE c =
    let i = c.loop-p.invariant in
    let t = long_token c.requires.2 _ i.0 c.if-s-p.false (sym c.if-n-eq-CLOSE.true) refl in
    omega (arith, closes_one c.requires.2 _ i.0 t, (few_where _ i.0).0)

pub bounds-starts-count-then-n-eq-CLOSE : goal.bounds-starts-count-then-n-eq-CLOSE
bounds-starts-count-then-n-eq-CLOSE c =
    let i = c.loop-p.invariant in
    let t = long_token c.requires.2 _ i.0 c.if-s-p.false (sym c.if-n-eq-CLOSE.true) refl in
    omega (arith, closes_one c.requires.2 _ i.0 t, (few_where _ i.0).0)

pub note-requires : goal.note-requires
note-requires c =
    let i = c.loop-p.invariant in
    let t = long_token c.requires.2 _ i.0 c.if-s-p.false (sym c.if-n-eq-CLOSE.true) refl in
    let g = end_fits _ _ _ (closes_noted c.requires.2 _ i.0 t) in
    (i.1.room, omega (arith, g.0, c.requires.0), omega (arith, g.1, c.requires.0))

pub shape_of-memo-then-count-eq0 : goal.shape_of-memo-then-count-eq0
shape_of-memo-then-count-eq0 c = ap length c.note.ensures ∙ note_long _ _ _ ∙ c.loop-p.invariant.2

pub returns-then-count-eq0 : goal.returns-then-count-eq0
returns-then-count-eq0 c =
    let i = c.loop-p.invariant in
    let t = long_token c.requires.2 _ i.0 c.if-s-p.false (sym c.if-n-eq-CLOSE.true) refl in
    (closes_last c.requires.2 _ i.0 t (omega (arith, c.if-count-eq0.true)), rw c.note.ensures (note_kept _ _ i.1 (closes_noted c.requires.2 _ i.0 t)))

pub loop-p-smaller-else-count-eq0 : goal.loop-p-smaller-else-count-eq0
loop-p-smaller-else-count-eq0 c = omega (arith, long_pair c.requires.2 _ c.loop-p.invariant.0 c.if-s-p.false)

pub loop-p-preserved-else-count-eq0 : goal.loop-p-preserved-else-count-eq0
loop-p-preserved-else-count-eq0 c =
    let i = c.loop-p.invariant in
    let t = long_token c.requires.2 _ i.0 c.if-s-p.false (sym c.if-n-eq-CLOSE.true) refl in (
      closes_on c.requires.2 _ i.0 t (λ z. omega (arith, c.if-count-eq0.false, z)),
      rw c.note.ensures (note_kept _ _ i.1 (closes_noted c.requires.2 _ i.0 t)),
      ap length c.note.ensures ∙ note_long _ _ _ ∙ i.2,
    )

-- ---- any other operator

pub loop-p-smaller : goal.loop-p-smaller
loop-p-smaller c = omega (arith, long_pair c.requires.2 _ c.loop-p.invariant.0 c.if-s-p.false)

pub loop-p-preserved : goal.loop-p-preserved
loop-p-preserved c =
    let i = c.loop-p.invariant in
    let t = long_token c.requires.2 _ i.0 c.if-s-p.false refl refl in
    (where_on c.requires.2 _ i.0 _ (operator_over _ _ _ _ t) (rw t (c.if-n-eq-OPEN.false, c.if-n-eq-CLOSE.false)), i.1, i.2)
