-- A piece lies past its token's start and inside the bytes.
use Rattle.std.proofs.Common.{rules, arith, ◌≡◌, ℕ, ◌+◌, ◌<◌, ◌≤◌, length, List}
use mathlib.Core.Path.{sym, subst, ◌∙◌}
use Rattle.tokens.specs.declared.Piece.{Piece}
use Rattle.std.specs.Prelude.{Option, Some}
use Rattle.tokens.specs.Joined.{piece_at}
use Rattle.tokens.proofs.Pieces.{Inside, inside}
use Rattle.pages.proofs.values.NameDisplay.fmt.Goals as goal

piece_in : (s : List ℕ) (at : ℕ) {p : Piece} {x : Option Piece} → x ≡ piece_at s at → x ≡ Some p → (at < p.start) × (p.start + p.len ≤ length s)
piece_in s at e d = subst (Inside (length s) at) (sym e ∙ d) (inside s at)

pub overflow_add-end : goal.overflow_add-end
overflow_add-end g c =
    let w = piece_in c.args.self.now.body.now c.loop-at.at c.piece_at.ensures c.in-Some.is in
    record { fits = omega (arith, w.1) }

pub loop-at-smaller : goal.loop-at-smaller
loop-at-smaller g c =
    let w = piece_in c.args.self.now.body.now c.loop-at.at c.piece_at.ensures c.in-Some.is in
    omega (arith, w.0, w.1)

pub slice_bounds-write_lower-end : goal.slice_bounds-write_lower-end
slice_bounds-write_lower-end g c =
    let w = piece_in c.args.self.now.body.now c.loop-at.at c.piece_at.ensures c.in-Some.is in
    let fits : c.in-Some.piece.start + c.in-Some.piece.len ≤ length c.args.self.now.body.now = w.1 in
    search rules
