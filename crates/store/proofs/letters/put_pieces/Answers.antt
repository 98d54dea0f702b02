-- `letters::put_pieces` meets its contract. Assumes nothing.
use borrow.Author.Rules.{rules}
use mathlib.Core.Path.{refl, sym, ◌∙◌}
use Prim.Native.Nat.{ℕ, ◌+◌, ◌-◌}
use lib.ListN.{length}
use mathlib.Core.List.{[], ◌++◌}
use lib.Seq.{slice}
use Rattle.std.proofs.lemmas.List.Edits.{length-between}
use Rattle.std.proofs.lemmas.Slice.{between_is}
use Rattle.table.specs.Slots.{slots}
use Rattle.tokens.proofs.Copying.{as_found, none_left, copied_end, piece_fits, copied_next}
use Rattle.table.proofs.SlotLists.{room_back}
use Rattle.state.specs.Operations.{letter_slots}
use Rattle.store.proofs.Charging.{letters_show, sets_long}
use native.Mathlib.Omega.{arith}
use Rattle.store.proofs.letters.put_pieces.Goals as goal

pub loop-at-init : goal.loop-at-init
loop-at-init c =
    let a = c.args in (refl, length a.b.now, [], record { room = omega arith; place = omega arith; same = refl; text_is = as_found letter_slots letters_show (slots a.w.now) a.k; rest = refl })

pub returns-in_default : goal.returns-in_default
returns-in_default c =
    copied_end letters_show c.loop-at.invariant.3 c.requires (sym c.next_piece.ensures ∙ c.in_default.is)

pub put_piece-requires : goal.put_piece-requires
put_piece-requires c =
    let w = piece_fits letters_show c.loop-at.invariant.3 c.requires (sym c.next_piece.ensures ∙ c.in-Some.is) in
    let f : ℕ = c.in-Some.piece.start in
    omega (arith, room_back _ _ w.2, length-between c.args.b.now f (f + c.in-Some.piece.len) w.1)

pub slice_bounds-put_piece-end : goal.slice_bounds-put_piece-end
slice_bounds-put_piece-end c = (piece_fits letters_show c.loop-at.invariant.3 c.requires (sym c.next_piece.ensures ∙ c.in-Some.is)).1

pub overflow_add-at : goal.overflow_add-at
overflow_add-at c =
    let w = piece_fits letters_show c.loop-at.invariant.3 c.requires (sym c.next_piece.ensures ∙ c.in-Some.is) in omega (arith, w.1)

pub overflow_add-q : goal.overflow_add-q
overflow_add-q c =
    let w = piece_fits letters_show c.loop-at.invariant.3 c.requires (sym c.next_piece.ensures ∙ c.in-Some.is) in omega (arith, room_back _ _ w.2)

pub loop-at-smaller : goal.loop-at-smaller
loop-at-smaller c =
    let w = piece_fits letters_show c.loop-at.invariant.3 c.requires (sym c.next_piece.ensures ∙ c.in-Some.is) in omega (arith, w.0, w.1)

pub loop-at-preserved : goal.loop-at-preserved
loop-at-preserved c =
    let i = c.loop-at.invariant in
    let f : ℕ = c.in-Some.piece.start in
    let put = rw (between_is c.args.b.now f (f + c.in-Some.piece.len)) at c.put_piece.ensures in
    (search rules, i.1 - 1, i.2 ++ slice f (f + c.in-Some.piece.len) c.args.b.now, copied_next letters_show i.3 c.requires (sym c.next_piece.ensures ∙ c.in-Some.is) (sets_long (slots c.loop-at.w) _ c.loop-at.q (letter_slots (slice f (f + c.in-Some.piece.len) c.args.b.now)) put) put)

pub returns : goal.returns
returns c =
    copied_end letters_show c.loop-at.invariant.3 c.requires (none_left c.args.b.now c.loop-at.at (omega arith))
