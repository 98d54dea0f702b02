use Rattle.std.proofs.lemmas.List.Edits.{length-between}
use Rattle.std.proofs.lemmas.Slice.{between_is}
use Rattle.tokens.specs.Bytes.{value_of}
use Prim.Native.Nat.{◌+◌}
use lib.ListN.{get_or}
use Rattle.tokens.proofs.Pieces.{length_bounds, within_missing, within_data, piece_is}
use native.Mathlib.Omega.{arith}
use mathlib.Core.Path.{refl, sym, ap, ◌∙◌}
use Rattle.pieces.proofs.sequences.piece_at.Goals as goal

pub overflow_add-start-2 : goal.overflow_add-start-2
overflow_add-start-2 c = omega (arith, c.length_bytes-k.ensures, length_bounds (get_or c.args.s.now c.args.at 0))

pub returns-then-s-start : goal.returns-then-s-start
returns-then-s-start c =
    let a = c.args in
    sym (piece_is a.s.now a.at c.length_bytes-k.result _ c.length_bytes-k.ensures refl ∙ within_missing a.s.now _ _ (omega arith))

pub value_after-n-requires : goal.value_after-n-requires
value_after-n-requires c =
    let a = c.args in
    let n = length-between a.s.now (a.at + 1) (a.at + 1 + c.length_bytes-k.result) (omega arith) in
    (omega (arith, n, c.length_bytes-k.ensures, length_bounds (get_or a.s.now a.at 0)), omega arith)

pub returns-then-s-start-2 : goal.returns-then-s-start-2
returns-then-s-start-2 c =
    let a = c.args in
    sym (piece_is a.s.now a.at c.length_bytes-k.result _ c.length_bytes-k.ensures (c.value_after-n.ensures.0 ∙ ap value_of (between_is a.s.now (a.at + 1) (a.at + 1 + c.length_bytes-k.result))) ∙ within_missing a.s.now _ _ (omega arith))

pub returns : goal.returns
returns c =
    let a = c.args in
    sym (piece_is a.s.now a.at c.length_bytes-k.result _ c.length_bytes-k.ensures (c.value_after-n.ensures.0 ∙ ap value_of (between_is a.s.now (a.at + 1) (a.at + 1 + c.length_bytes-k.result))) ∙ within_data a.s.now _ _ (omega arith))
