-- `letters::put_letters` meets its contract. Assumes nothing.
use mathlib.Core.Path.{◌≡◌, sym, ◌∙◌, subst}
use Prim.Native.Nat.{ℕ, ◌+◌}
use lib.ListN.{length}
use lib.Seq.{sets, slice}
use Rattle.std.proofs.lemmas.List.Edits.{length-between}
use Rattle.std.proofs.lemmas.Slice.{between_is}
use Rattle.table.specs.Slots.{slots}
use Rattle.tokens.specs.Joined.{data_of, joined_at, continuations, FitsText}
use Rattle.tokens.proofs.Copying.{first_fits, text_whole, none_past, none_missing}
use Rattle.table.proofs.SlotLists.{room_back}
use Rattle.state.specs.Operations.{letter_slots}
use Rattle.store.proofs.Charging.{letters_show, no_letters, letters_fit, sets_long}
use native.Mathlib.Omega.{arith}
use Rattle.store.proofs.letters.put_letters.Goals as goal
use Rattle.store.proofs.letters.put_letters.Goals.{After-put_piece}

-- the first piece is in its place
put : (c : After-put_piece) → slots c.put_piece.new.w ≡ sets (slots c.args.w.now) c.args.k (letter_slots (slice c.in-Some.piece.start (c.in-Some.piece.start + c.in-Some.piece.len) c.args.b.now))
put c = rw (between_is c.args.b.now c.in-Some.piece.start (c.in-Some.piece.start + c.in-Some.piece.len)) at c.put_piece.ensures

pub returns-then-n-eq0 : goal.returns-then-n-eq0
returns-then-n-eq0 c =
    no_letters (data_of (joined_at c.args.b.now c.args.at)) (slots c.args.w.now) c.args.k (omega (arith, c.requires.0, c.if-n-eq0.true))

pub returns-then-at-b : goal.returns-then-at-b
returns-then-at-b c =
    no_letters (data_of (joined_at c.args.b.now c.args.at)) (slots c.args.w.now) c.args.k (omega (arith, none_past c.args.b.now c.args.at (omega arith)))

pub returns-in_default : goal.returns-in_default
returns-in_default c =
    no_letters (data_of (joined_at c.args.b.now c.args.at)) (slots c.args.w.now) c.args.k (omega (arith, none_missing c.args.b.now c.args.at (sym c.piece_at.ensures ∙ c.in_default.is)))

pub put_piece-requires : goal.put_piece-requires
put_piece-requires c =
    let w = first_fits c.args.b.now c.args.at (length (slots c.args.w.now)) c.args.k (letters_fit c.args.w.now c.args.k c.args.n (joined_at c.args.b.now c.args.at) c.requires.0 c.if-n-eq0.false c.requires.1) (sym c.piece_at.ensures ∙ c.in-Some.is) in
    let f : ℕ = c.in-Some.piece.start in
    omega (arith, room_back _ _ w.0, length-between c.args.b.now f (f + c.in-Some.piece.len) w.1)

pub slice_bounds-put_piece-end : goal.slice_bounds-put_piece-end
slice_bounds-put_piece-end c = (first_fits c.args.b.now c.args.at (length (slots c.args.w.now)) c.args.k (letters_fit c.args.w.now c.args.k c.args.n (joined_at c.args.b.now c.args.at) c.requires.0 c.if-n-eq0.false c.requires.1) (sym c.piece_at.ensures ∙ c.in-Some.is)).1

pub overflow_add-k : goal.overflow_add-k
overflow_add-k c =
    let w = first_fits c.args.b.now c.args.at (length (slots c.args.w.now)) c.args.k (letters_fit c.args.w.now c.args.k c.args.n (joined_at c.args.b.now c.args.at) c.requires.0 c.if-n-eq0.false c.requires.1) (sym c.piece_at.ensures ∙ c.in-Some.is) in omega (arith, room_back _ _ w.0)

pub overflow_add-next : goal.overflow_add-next
overflow_add-next c =
    let w = first_fits c.args.b.now c.args.at (length (slots c.args.w.now)) c.args.k (letters_fit c.args.w.now c.args.k c.args.n (joined_at c.args.b.now c.args.at) c.requires.0 c.if-n-eq0.false c.requires.1) (sym c.piece_at.ensures ∙ c.in-Some.is) in omega (arith, w.1)

pub put_pieces-requires : goal.put_pieces-requires
put_pieces-requires c =
    let w = first_fits c.args.b.now c.args.at (length (slots c.args.w.now)) c.args.k (letters_fit c.args.w.now c.args.k c.args.n (joined_at c.args.b.now c.args.at) c.requires.0 c.if-n-eq0.false c.requires.1) (sym c.piece_at.ensures ∙ c.in-Some.is) in subst (λ (n : ℕ). FitsText n (c.args.k + c.in-Some.piece.len) (continuations c.args.b.now (c.in-Some.piece.start + c.in-Some.piece.len))) (sym (sets_long (slots c.args.w.now) _ c.args.k (letter_slots (slice c.in-Some.piece.start (c.in-Some.piece.start + c.in-Some.piece.len) c.args.b.now)) (put (goal.at.put_pieces-requires c).After-put_piece))) w.2

pub returns : goal.returns
returns c =
    text_whole c.args.b.now c.args.at (length (slots c.args.w.now)) c.args.k (letters_fit c.args.w.now c.args.k c.args.n (joined_at c.args.b.now c.args.at) c.requires.0 c.if-n-eq0.false c.requires.1) (sym c.piece_at.ensures ∙ c.in-Some.is) letter_slots letters_show (slots c.args.w.now) (put (goal.at.returns c).After-put_piece) c.put_pieces.ensures
