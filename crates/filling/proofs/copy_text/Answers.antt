-- `copy_text` meets its contract: the first piece, then all that continue it. Assumes nothing.
use Rattle.std.specs.Prelude.{Some}
use Rattle.tokens.specs.Joined.{piece_from}
use mathlib.Core.Path.{◌≡◌, sym, subst, ◌∙◌}
use Prim.Native.Nat.{ℕ, ◌+◌, ◌≤◌}
use native.Mathlib.Omega.{arith}
use lib.ListN.{length}
use Rattle.std.proofs.lemmas.List.Edits.{length-between}
use Rattle.std.proofs.lemmas.Slice.{between_is}
use Rattle.tokens.specs.Joined.{piece_at, FitsText, continuations}
use Rattle.tokens.proofs.Copying.{first_fits, text_whole}
use Rattle.filling.specs.Filling.{shown}
use Rattle.filling.proofs.Copying.{there, shows}
use Rattle.filling.proofs.copy_text.Goals as goal
use Rattle.filling.proofs.copy_text.Goals.{After-unwrap-piece}

here : (c : After-unwrap-piece) → piece_at c.args.s.now c.args.at ≡ Some (piece_from c.unwrap-piece.result.start c.unwrap-piece.result.len)
here c = sym c.piece_at.ensures ∙ c.unwrap-piece.ensures

begun : (c : After-unwrap-piece) → let a = c.args in let f = c.unwrap-piece.result.start in let m = c.unwrap-piece.result.len in
    (a.o + m ≤ length a.text.now) × (f + m ≤ length a.s.now) × FitsText (length a.text.now) (a.o + m) (continuations a.s.now (f + m))
begun c = let a = c.args in first_fits a.s.now a.at (length a.text.now) a.o c.requires.1 (here c)

pub unwrap-piece-requires : goal.unwrap-piece-requires
unwrap-piece-requires c =
    let a = c.args in there a.s.now a.at (length a.text.now) a.o c.requires.1 c.piece_at.ensures

pub put_part-requires : goal.put_part-requires
put_part-requires c =
    let w = begun (goal.at.put_part-requires c).After-unwrap-piece in
    let f : ℕ = c.unwrap-piece.result.start in
    omega (arith, w.0, length-between c.args.s.now f (f + c.unwrap-piece.result.len) w.1)

pub slice_bounds-put_part-end : goal.slice_bounds-put_part-end
slice_bounds-put_part-end c = (begun (goal.at.slice_bounds-put_part-end c).After-unwrap-piece).1

pub overflow_add-next : goal.overflow_add-next
overflow_add-next c = omega (arith, (begun (goal.at.overflow_add-next c).After-unwrap-piece).1)

pub overflow_add-o : goal.overflow_add-o
overflow_add-o c = omega (arith, (begun (goal.at.overflow_add-o c).After-unwrap-piece).0)

pub copy_from-requires : goal.copy_from-requires
copy_from-requires c =
    let a = c.args in
    let m = c.unwrap-piece.result.len in
    subst (λ (n : ℕ). FitsText n (a.o + m) (continuations a.s.now (c.unwrap-piece.result.start + m))) (sym c.put_part.auto.text)
    (begun (goal.at.copy_from-requires c).After-unwrap-piece).2

pub returns : goal.returns
returns c =
    let a = c.args in
    text_whole a.s.now a.at (length a.text.now) a.o c.requires.1 (here (goal.at.returns c).After-unwrap-piece) (shown a.lower) (shows a.lower) a.text.now
    (rw (between_is a.s.now c.unwrap-piece.result.start (c.unwrap-piece.result.start + c.unwrap-piece.result.len)) at c.put_part.ensures) c.copy_from.ensures
