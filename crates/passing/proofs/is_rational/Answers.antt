-- `is_rational` meets its contract. Assumes nothing.
use Rattle.tokens.proofs.OnePiece.{differs, rational_answered}
use Rattle.tokens.proofs.Sizes.{rational_few}
use Rattle.tokens.specs.Bytes.{value_of}
use Rattle.tokens.specs.Token.{rational_size}
use Rattle.std.proofs.lemmas.List.{length-take-le}
use Rattle.std.proofs.lemmas.List.Edits.{length-between}
use Rattle.std.proofs.lemmas.Slice.{between_to_end}
use lib.ListN.{length, take, drop}
use mathlib.Core.List.{List}
use Prim.Native.Nat.{ℕ, ◌/◌, ◌-◌}
use native.Mathlib.Nat.{zero-add}
use native.Mathlib.Omega.{arith}
use mathlib.Core.Bool.{true, false≢true}
use mathlib.Core.Path.{◌≡◌, sym, ap, ◌∙◌}
use Rattle.passing.proofs.is_rational.Goals as goal

pub returns-then-not-rational_size : goal.returns-then-not-rational_size
returns-then-not-rational_size c e = absurd (false≢true e)

-- both halves have as many bytes
halves : (d : List ℕ) → rational_size (length d) ≡ true → (length (take (length d / 2) d) ≡ length d / 2) × (length (take (length d - length d / 2) (drop (length d / 2) d)) ≡ length d / 2)
halves d e =
    let few = rational_few (length d) e in
    (length-take-le (length d / 2) d (omega arith), length-between d (length d / 2) (length d) (omega arith) ∙ omega (arith, few.0))

pub value_after-requires : goal.value_after-requires
value_after-requires c =
    let d = c.args.part.now in
    let size = sym c.rational_size.ensures ∙ c.if-not-rational_size.false in
    (omega (arith, (halves d size).0, (rational_few (length d) size).1), omega arith)

pub returns-then-value_after-eq-LEAST : goal.returns-then-value_after-eq-LEAST
returns-then-value_after-eq-LEAST c e = absurd (false≢true e)

pub value_after-d-requires : goal.value_after-d-requires
value_after-d-requires c =
    let d = c.args.part.now in
    let size = sym c.rational_size.ensures ∙ c.if-not-rational_size.false in
    (omega (arith, (halves d size).1, (rational_few (length d) size).1), omega arith)

pub returns-then-d-eq-LEAST : goal.returns-then-d-eq-LEAST
returns-then-d-eq-LEAST c e = absurd (false≢true e)

pub returns : goal.returns
returns c e =
    let d = c.args.part.now in
    let size = sym c.rational_size.ensures ∙ c.if-not-rational_size.false in
    let few = rational_few (length d) size in
    let h : ℕ = length d / 2 in
    let l = halves d size in
    let v = c.value_after in
    let w = c.value_after-d in (
      size,
      rational_answered h v.result w.result d (omega (arith, few.1)) v.ensures.0 (w.ensures.0 ∙ ap value_of (between_to_end d h (length d) (omega arith))) (rw (l.0, zero-add h) at v.ensures.1) (rw (l.1, zero-add h) at w.ensures.1) c.if-value_after-eq-LEAST.false c.if-d-eq-LEAST.false (differs _ _ e),
    )
