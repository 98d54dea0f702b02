-- `reading::sequence_at` meets its contract: no piece, a piece that nothing continues, or joined pieces. Assumes nothing.
use Rattle.std.specs.Prelude.{Ok, Err, Some}
use Rattle.tokens.specs.Joined.{piece_from}
use Rattle.tokens.specs.Inner.{gathered}
use Rattle.tokens.proofs.Ends.{joined_bytes}
use Rattle.tokens.proofs.Judged.{sequence_whole, sequence_cut}
use Rattle.tokens.proofs.OnePiece.{sequence_one}
use Rattle.tokens.proofs.Pieces.{Inside, inside, joined_data, joined_missing}
use Rattle.table.proofs.WordLists.{Bytes}
use Rattle.tokens.specs.Inner.{gathered_of, judged_by}
use Rattle.tokens.specs.Token.{judged, sequence}
use Rattle.tokens.specs.Joined.{joined_at, piece_at}
use Prim.Native.Nat.{ℕ, ◌+◌, ◌%◌, ◌≤◌}
use lib.ListN.{length, get_or}
use lib.Seq.{slice}
use Rattle.std.proofs.lemmas.Slice.{between_is}
use native.Mathlib.Omega.{arith}
use mathlib.Core.Path.{◌≡◌, sym, ap, ◌∙◌}
use Rattle.reader.proofs.reading.sequence_at.Goals as goal
use Rattle.reader.proofs.reading.sequence_at.Goals.{In-Some}

data_is : (c : In-Some) → piece_at c.args.s.now c.args.at ≡ Some (piece_from c.in-Some.piece.start c.in-Some.piece.len)
data_is c = sym c.piece_at.ensures ∙ c.in-Some.is

ends : (c : In-Some) → c.in-Some.piece.start + c.in-Some.piece.len ≤ length c.args.s.now
ends c =
    let a = c.args in
    let w : Inside (length a.s.now) a.at (Some (piece_from c.in-Some.piece.start c.in-Some.piece.len)) = rw (data_is c) at (inside a.s.now a.at) in
    w.1

-- ---- what is answered

pub returns-in_default : goal.returns-in_default
unfolding sequence
returns-in_default c =
    let a = c.args in
    ap Err c.met_at.ensures ∙ rw (joined_missing a.s.now a.at (sym c.piece_at.ensures ∙ c.in_default.is))

pub overflow_add-next : goal.overflow_add-next
overflow_add-next c = omega (arith, ends (goal.at.overflow_add-next c).In-Some, c.well_formed)

pub slice_bounds-single-end : goal.slice_bounds-single-end
slice_bounds-single-end c = ends (goal.at.slice_bounds-single-end c).In-Some

pub returns-then-not-is_continued_at : goal.returns-then-not-is_continued_at
returns-then-not-is_continued_at c =
    let a = c.args in
    let f : ℕ = c.in-Some.piece.start in
    let n : ℕ = c.in-Some.piece.len in
    let e = ap (λ (k : ℕ). judged k a.at (slice f (f + n) a.s.now) (f + n)) c.low5-k.ensures in
    c.single.ensures ∙ ap (λ d. judged c.low5-k.result a.at d (f + n)) (between_is a.s.now f (f + n)) ∙ e ∙ sym (sequence_one (get_or a.s.now a.at 0 % 32) a.s.now a.at f n (data_is (goal.at.returns-then-not-is_continued_at c).In-Some) (sym c.is_continued_at.ensures ∙ c.if-not-is_continued_at.true))

pub gather-requires : goal.gather-requires
gather-requires c = ends (goal.at.gather-requires c).In-Some

pub returns-in-Err : goal.returns-in-Err
returns-in-Err c =
    let a = c.args in
    let k : ℕ = get_or a.s.now a.at 0 % 32 in
    let j = joined_data a.s.now a.at _ _ (data_is (goal.at.returns-in-Err c).In-Some) in
    ap Err c.met_at-in-Err.ensures ∙ sequence_cut k a.at (joined_at a.s.now a.at) c.in-Err.refused (rw (j, ← c.low5-k.ensures) (sym c.gather.ensures.0 ∙ c.in-Err.is))

pub judge-requires : goal.judge-requires
judge-requires c = rw c.in-Ok.is at c.gather.ensures.1

pub returns-in-Ok : goal.returns-in-Ok
returns-in-Ok c =
    let a = c.args in
    let k : ℕ = get_or a.s.now a.at 0 % 32 in
    let j = joined_data a.s.now a.at _ _ (data_is (goal.at.returns-in-Ok c).In-Some) in
    let g : gathered_of k (joined_at a.s.now a.at) ≡ Ok (gathered c.in-Ok.whole.sum c.in-Ok.whole.next) = rw (j, ← c.low5-k.ensures) (sym c.gather.ensures.0 ∙ c.in-Ok.is) in
    let s : Bytes a.s.now = (λ i. omega (arith, c.type_inv.s i)) in
    c.judge.ensures ∙ ap (λ (t : ℕ). judged_by t a.at c.in-Ok.whole.sum c.in-Ok.whole.next) c.low5-k.ensures ∙ sequence_whole k a.at (joined_at a.s.now a.at) _ _ (joined_bytes a.s.now a.at s) g
