-- `letter` meets its contract. Assumes nothing.
use mathlib.Core.Path.{sym, ◌∙◌}
use Prim.Native.Nat.{◌+◌, ◌-◌}
use lib.ListN.{length}
use mathlib.Core.List.{[], ◌++◌}
use lib.Seq.{slice}
use Rattle.tokens.proofs.Copying.{none_left}
use Rattle.names.proofs.Letters.{byte_here, byte_left, piece_in, byte_on, byte_inside, byte_there, byte_first}
use native.Mathlib.Omega.{arith}
use Rattle.names.proofs.letter.Goals as goal

pub returns-then-at-b : goal.returns-then-at-b
returns-then-at-b c =
    let a = c.args in absurd (byte_inside a.b.now a.at a.i c.requires (omega arith))

pub returns-in_default : goal.returns-in_default
returns-in_default c =
    let a = c.args in absurd (byte_there a.b.now a.at a.i c.requires (sym c.piece_at.ensures ∙ c.in_default.is))

pub loop-piece-init : goal.loop-piece-init
loop-piece-init c =
    let a = c.args in (length a.b.now, [], byte_first a.b.now a.at a.i c.requires (sym c.piece_at.ensures ∙ c.in-Some.is))

pub overflow_add-next : goal.overflow_add-next
overflow_add-next c = omega (arith, c.loop-piece.invariant.2.within)

pub returns-then-next-b : goal.returns-then-next-b
returns-then-next-b c =
    let o = c.loop-piece in absurd (byte_left o.invariant.2 c.requires (none_left c.args.b.now (o.piece.start + o.piece.len) (omega arith)) (omega arith))

pub returns-in_default-next_piece : goal.returns-in_default-next_piece
returns-in_default-next_piece c =
    absurd (byte_left c.loop-piece.invariant.2 c.requires (sym c.next_piece.ensures ∙ c.in_default-next_piece.is) (omega arith))

pub loop-piece-smaller : goal.loop-piece-smaller
loop-piece-smaller c =
    let w = piece_in c.loop-piece.invariant.2 c.requires (sym c.next_piece.ensures ∙ c.in-Some-next_piece.is) in omega (arith, w.0, w.1)

pub loop-piece-preserved : goal.loop-piece-preserved
loop-piece-preserved c =
    let o = c.loop-piece in (o.invariant.0 - 1, o.invariant.1 ++ slice o.piece.start (o.piece.start + o.piece.len) c.args.b.now, byte_on o.invariant.2 c.requires (sym c.next_piece.ensures ∙ c.in-Some-next_piece.is) (omega arith))

pub overflow_add-result : goal.overflow_add-result
overflow_add-result c = omega (arith, c.loop-piece.invariant.2.within)

pub bounds-b-piece : goal.bounds-b-piece
bounds-b-piece c = omega (arith, c.loop-piece.invariant.2.within)

pub returns : goal.returns
returns c = byte_here c.loop-piece.invariant.2 c.requires (omega arith)
