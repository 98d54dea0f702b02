-- The loop over the continued tokens: what is kept is the summary of the data joined so far, and the rest from here is the whole.
-- Assumes nothing.
use Rattle.std.specs.Prelude.{Some, Err}
use Rattle.tokens.specs.Joined.{piece_from}
use Rattle.std.proofs.lemmas.List.Edits.{length-between}
use Rattle.std.proofs.lemmas.Slice.{between_is}
use lib.ListN.{length, length-append}
use Rattle.tokens.proofs.Turns.{ended, broken, went, at_end_lem}
use Rattle.tokens.proofs.Summaries.{summary_append, summary_first, summary_length, part_length, nothing}
use Rattle.tokens.proofs.Pieces.{Inside, inside}
use Rattle.tokens.specs.Inner.{added}
use lib.Seq.{slice}
use mathlib.Core.List.{◌++◌}
use Prim.Native.Nat.{ℕ, ◌+◌, ◌-◌, ◌<◌, ◌≤◌}
use native.Mathlib.Omega.{arith}
use mathlib.Core.Path.{refl, sym, ap, ◌∙◌}
use Rattle.pieces.proofs.sequences.gather.Goals as goal
use Rattle.pieces.proofs.sequences.gather.Goals.{In-Some}

-- the piece that continues lies past its token's start and inside the input
part : (c : In-Some) → (c.loop-at.at < c.in-Some.piece.start) × (c.in-Some.piece.start + c.in-Some.piece.len ≤ length c.args.s.now)
part c =
    let w : Inside (length c.args.s.now) c.loop-at.at (Some (piece_from c.in-Some.piece.start c.in-Some.piece.len)) = rw (← c.piece_at.ensures, c.in-Some.is) at (inside c.args.s.now c.loop-at.at) in
    w

pub take_piece-sum-requires : goal.take_piece-sum-requires
take_piece-sum-requires c =
    let a = c.args in
    (omega (arith, length-between a.s.now a.own.start (a.own.start + a.own.len) (omega arith)), (λ h. omega arith))

pub overflow_add-at : goal.overflow_add-at
overflow_add-at c = omega arith

pub loop-at-init : goal.loop-at-init
loop-at-init c =
    let a = c.args in
    let d = slice a.own.start (a.own.start + a.own.len) a.s.now in
    let e = c.take_piece-sum.ensures.0 ∙ ap (added a.k nothing) (between_is a.s.now a.own.start (a.own.start + a.own.len)) ∙ summary_first a.k d in
    let m = ap (λ g. g.len) e ∙ summary_length a.k d in
    let n = part_length a.s.now a.own.start a.own.len (omega arith) in
    (length a.s.now, d, e, c.take_piece-sum.ensures.1, omega arith, omega arith, omega arith, refl)

pub bounds-s-at : goal.bounds-s-at
bounds-s-at c = omega arith

pub returns-then-not-is_continued : goal.returns-then-not-is_continued
returns-then-not-is_continued c =
    let a = c.args in
    let o = c.loop-at in
    let i = o.invariant in
    (ended a.k _ i.0 a.s.now o.at i.1 i.6 i.7 o.sum i.2 (sym c.is_continued.ensures ∙ c.if-not-is_continued.true), i.3)

pub piece_at-requires : goal.piece_at-requires
piece_at-requires c = omega arith

pub returns-in_default : goal.returns-in_default
returns-in_default c =
    let a = c.args in
    let o = c.loop-at in
    let i = o.invariant in
    (ap Err c.met_at.ensures ∙ broken a.k _ i.0 a.s.now o.at i.1 i.6 i.7 (sym c.is_continued.ensures ∙ c.if-not-is_continued.false) (sym c.piece_at.ensures ∙ c.in_default.is), tt)

pub take_piece-sum-requires-in-loop-at : goal.take_piece-sum-requires-in-loop-at
take_piece-sum-requires-in-loop-at c =
    let a = c.args in
    let i = c.loop-at.invariant in
    let f : ℕ = c.in-Some.piece.start in
    let n : ℕ = c.in-Some.piece.len in
    let p = part (goal.at.take_piece-sum-requires-in-loop-at c).In-Some in
    (omega (arith, p.0, p.1, length-between a.s.now f (f + n) p.1, i.4, c.well_formed), i.3)

pub overflow_add-piece : goal.overflow_add-piece
overflow_add-piece c = omega (arith, (part (goal.at.overflow_add-piece c).In-Some).1, c.well_formed)

pub slice_bounds-take_piece-end-in-loop-at : goal.slice_bounds-take_piece-end-in-loop-at
slice_bounds-take_piece-end-in-loop-at c = omega (arith, (part (goal.at.slice_bounds-take_piece-end-in-loop-at c).In-Some).1)

pub overflow_add-at-in-loop-at : goal.overflow_add-at-in-loop-at
overflow_add-at-in-loop-at c =
    let a = c.args in
    omega (arith, (part (goal.at.overflow_add-at-in-loop-at c).In-Some).1, c.well_formed)

pub loop-at-smaller : goal.loop-at-smaller
loop-at-smaller c =
    let a = c.args in
    omega (arith, (part (goal.at.loop-at-smaller c).In-Some).0, (part (goal.at.loop-at-smaller c).In-Some).1, c.loop-at-test.true)

pub loop-at-preserved : goal.loop-at-preserved
loop-at-preserved c =
    let a = c.args in
    let o = c.loop-at in
    let i = o.invariant in
    let f : ℕ = c.in-Some.piece.start in
    let n : ℕ = c.in-Some.piece.len in
    let p = slice f (f + n) a.s.now in
    let e = c.take_piece-sum-in-loop-at.ensures.0 ∙ ap (added a.k o.sum) (between_is a.s.now f (f + n)) ∙ ap (λ g. added a.k g p) i.2 ∙ sym (summary_append a.k i.1 p) in
    let m = ap (λ g. g.len) e ∙ summary_length a.k (i.1 ++ p) in
    let q = ap (λ g. g.len) i.2 ∙ summary_length a.k i.1 in
    let l = part_length a.s.now f n (part (goal.at.loop-at-preserved c).In-Some).1 in
    let u = length-append i.1 p in (
      i.0 - 1,
      i.1 ++ p,
      e,
      c.take_piece-sum-in-loop-at.ensures.1,
      omega (arith, m, q, u, l, (part (goal.at.loop-at-preserved c).In-Some).0, i.4),
      (part (goal.at.loop-at-preserved c).In-Some).1,
      omega (arith, (part (goal.at.loop-at-preserved c).In-Some).0, (part (goal.at.loop-at-preserved c).In-Some).1, i.6, c.loop-at-test.true),
      went a.k _ i.0 a.s.now o.at i.1 i.6 i.7 f n (sym c.is_continued.ensures ∙ c.if-not-is_continued.false) (sym c.piece_at.ensures ∙ c.in-Some.is),
    )

pub returns : goal.returns
returns c =
    let a = c.args in
    let o = c.loop-at in
    let i = o.invariant in
    (ended a.k _ i.0 a.s.now o.at i.1 i.6 i.7 o.sum i.2 (at_end_lem a.s.now o.at (omega arith)), i.3)
