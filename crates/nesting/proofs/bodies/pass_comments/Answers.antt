-- `bodies::pass_comments` meets its contract: passing comments from here ends where passing them from the start does. Assumes nothing.
use Rattle.std.specs.Prelude.{Result, Ok}
use Rattle.tokens.specs.declared.Refused.{Refused}
use mathlib.Core.Path.{◌≡◌, refl, sym, ap, ◌∙◌}
use mathlib.Core.List.{List}
use Prim.Native.Nat.{ℕ, ◌-◌}
use native.Mathlib.Omega.{arith}
use lib.ListN.{length}
use Rattle.tokens.specs.declared.Read.{Read}
use Rattle.tokens.specs.declared.Read.TheVariants.{Comment}
use Rattle.points.specs.declared.Taken.{Taken}
use Rattle.tokens.specs.Token.{token_at}
use Rattle.points.specs.Point.{next_of, taken_at}
use Rattle.machine.proofs.Inside.{EndsIn, token_inside}
use Rattle.machine.specs.Skeleton.{past_comment, solid}
use Rattle.nesting.proofs.BodyTurns.{past, stands, solid_kind}
use Rattle.nesting.proofs.bodies.pass_comments.Goals as goal

-- what was taken is the token at p
is_token : (s : List ℕ) (p : ℕ) {x : Taken} {t : Result Read Refused} → x ≡ taken_at s p → x.token ≡ t → token_at s p ≡ t
is_token s p e f = sym (ap (λ (y : Taken). y.token) e) ∙ f

-- a comment, and the reading point is handed on to its end
is_comment : (s : List ℕ) (p n : ℕ) {x : Taken} {t : Read} → x ≡ taken_at s p → x.token ≡ Ok t → t ≡ Comment n → (token_at s p ≡ Ok (Comment n)) × (x.next ≡ n)
is_comment s p n {x} {t} e f g =
    let d : token_at s p ≡ Ok (Comment n) = is_token s p e f ∙ rw g in (d, ap (λ (y : Taken). y.next) e ∙ ap (next_of p) d)

pub loop-token-init : goal.loop-token-init
unfolding solid
loop-token-init c = (length c.args.s.now, omega arith, refl)

pub returns-in_default : goal.returns-in_default
returns-in_default c =
    let l = c.loop-token in stands l.invariant.0 _ l.p _ _ l.invariant.1 l.invariant.2 (is_token _ l.p c.take-taken.ensures c.in_default.is) tt

pub returns-in_default-token : goal.returns-in_default-token
returns-in_default-token c =
    let l = c.loop-token in
    let e = is_token _ l.p c.take-taken.ensures c.in-Ok.is in
    stands l.invariant.0 _ l.p _ _ l.invariant.1 l.invariant.2 e (solid_kind _ c.in_default-token.not-Comment)

pub loop-token-smaller : goal.loop-token-smaller
loop-token-smaller c =
    let s = c.args.s.now in
    let p : ℕ = c.loop-token.p in
    let e = is_comment s p _ c.take-taken.ensures c.in-Ok.is c.in-Comment.is in
    let g : EndsIn (length s) p (Ok (Comment c.in-Comment.next)) = rw e.0 at (token_inside s p) in
    omega (arith, g.0, g.1, e.1)

pub loop-token-preserved : goal.loop-token-preserved
unfolding past_comment
loop-token-preserved c =
    let s = c.args.s.now in
    let p : ℕ = c.loop-token.p in
    let e = is_comment s p _ c.take-taken.ensures c.in-Ok.is c.in-Comment.is in
    let g : EndsIn (length s) p (Ok (Comment c.in-Comment.next)) = rw e.0 at (token_inside s p) in
    let i = c.loop-token.invariant in
    (i.0 - 1, omega (arith, g.0, g.1, i.1, e.1), rw e.1 (rw e.0 at (sym (past i.0 s p i.1) ∙ i.2)))
