-- What skipping asks of a literal, told by the token's form. Assumes nothing.
use Rattle.std.specs.Prelude.{Result, Ok, Err, Some}
use Rattle.tokens.specs.declared.Refused.{Refused}
use Prim.Native.Nat.{ℕ, ◌<◌, ◌≤◌}
use mathlib.Core.Path.{◌≡◌, refl, sym, ◌∙◌}
use mathlib.Core.Bool.{false}
use mathlib.Core.Logic.{◌⊎◌, inl, inr, ⊎_elim}
use mathlib.Core.List.{List}
use native.Mathlib.Omega.{arith}
use lib.ListN.{length, get_or}
use lib.IntN.{pos, ◌-ℤ◌}
use Rattle.numbers.specs.declared.Number as num
use Rattle.tokens.specs.Format.{bias}
use Rattle.tokens.specs.declared.Read.{Read}
use Rattle.tokens.specs.declared.Read.TheVariants as read
use Rattle.tokens.specs.declared.Form.{Form}
use Rattle.tokens.specs.declared.Form.TheVariants as form
use Rattle.tokens.specs.Token.{token_at}
use Rattle.tokens.specs.Passing.{Shows, pass_of}
use Rattle.machine.specs.declared.Role.{Role}
use Rattle.machine.specs.declared.Role.TheVariants as role
use Rattle.machine.specs.declared.Literal.TheVariants.{Figure, Plain}
use Rattle.machine.specs.Skeleton.{role_of, solid}
use Rattle.machine.specs.Literal.{Found, found, operator_by, found_by, found_at}
use Rattle.machine.specs.Step.{is_unmark0}
use Rattle.machine.specs.Readable.{NoComment}
use Rattle.machine.proofs.Comments.{never, Comments, none_at, one_at, comments_are}
use Rattle.machine.proofs.Inside.{token_inside}
use Rattle.nesting.proofs.BodyTurns.{NoOperator, number_shown, operator_shown, operator_ends, no_operator}
use Rattle.literals.specs.declared.Due.{Due}
use Rattle.literals.specs.Dues.{Is, Passes, Tells}

-- ---- a place past comments lies inside the bytes where the place does

pub comments_end : (s : List ℕ) (at q : ℕ) → Comments s at q → (q ≡ at) ⊎ (q ≤ length s)
comments_end s at q (none_at h) = inl refl
comments_end s at q (one_at {next = next} h c) =
    let g : (at < next) × (next ≤ length s) = rw h at (token_inside s at) in
    let g1 : next ≤ length s = g.1 in
    inr (⊎_elim (λ e. omega arith) (λ l. l) (comments_end s next q c))

pub solid_inside : (s : List ℕ) (at : ℕ) → at ≤ length s → solid s at ≤ length s
solid_inside s at h = ⊎_elim (λ e. omega arith) (λ k. k) (comments_end s at (solid s at) (comments_are s at))

-- ---- the literal there

pub is_as : {f g : Found} {d : Due} → f ≡ g → Is g d → Is f d
is_as e i = rw e i

-- a token that is neither a comment nor an operator
over : (b : List ℕ) (at next past : ℕ) (t : Result Read Refused) → NoComment t → NoOperator t → pass_of t ≡ Ok next → past ≡ solid b next
    → Passes (found_by b at t) (record { next = past; unmarks = false })
unfolding found_by pass_of is_unmark0
over b at next past (Ok (read.Number v k)) c o e p = let z : k ≡ next = cc in record { next = p ∙ (rw z); unmarks = refl }
over b at next past (Ok (read.Identifier l k)) c o e p = let z : k ≡ next = cc in record { next = p ∙ (rw z); unmarks = refl }
over b at next past (Ok (read.String l k)) c o e p = let z : k ≡ next = cc in record { next = p ∙ (rw z); unmarks = refl }
over b at next past (Ok (read.Operator n k)) c o e p = absurd o
over b at next past (Ok (read.Comment k)) c o e p = absurd c
over b at next past (Err w) c o e p = never (cc)

module _ (b : List ℕ) (at : ℕ) where
  module _ (g : (at < length b) × (192 ≤ get_or b at 0)) (t : Result ℕ Refused) (e : t ≡ pass_of (token_at b at)) where
    operands : NoOperator (token_at b at)
    operands = no_operator b at form.Sequence refl g

    pub sequence_over : (next past : ℕ) → NoComment (token_at b at) → t ≡ Ok next → past ≡ solid b next
        → Passes (found_at b at) (record { next = past; unmarks = false })
    unfolding found_at
    sequence_over next past c f p = over b at next past (token_at b at) c operands (sym e ∙ f) p

  module _ (f : Form) (h : Shows b at f) where
    pub number_over : (raw next past : ℕ) → f ≡ form.Number raw next → past ≡ solid b next → Passes (found_at b at) (record { next = past; unmarks = false })
    unfolding found_at found_by is_unmark0
    number_over raw next past e p = rw (number_shown b at f raw next e h) (record { next = p; unmarks = refl })

    pub number_found : (raw next : ℕ) (v : num.Number) → f ≡ form.Number raw next → v ≡ record { num = pos raw -ℤ pos bias; den = 1 }
        → found_at b at ≡ found b (Figure v) next
    unfolding found_at found_by
    number_found raw next v e g = rw (number_shown b at f raw next e h, g)

    pub operator_found : (n next : ℕ) → f ≡ form.Operator n next → found_at b at ≡ operator_by (role_of n) b n next
    unfolding found_at found_by
    operator_found n next e = rw (operator_shown b at f n next e h)

    pub plain_found : (n next past : ℕ) → f ≡ form.Operator n next → past ≡ solid b next → role_of n ≡ role.Plain
        → found_at b at ≡ record { literal = Plain n; next = past }
    unfolding operator_by
    plain_found n next past e p i = operator_found n next e ∙ (rw (i, ← p))

-- ---- an operator without a body

pub bare_there : (b : List ℕ) (at : ℕ) (f : Form) (n next past : ℕ) (r : Role) → Shows b at f → f ≡ form.Operator n next → r ≡ role_of n → r ≡ role.Plain
    → past ≡ solid b next → Tells b at (Some (record { number = n; next = past }))
bare_there b at f n next past r h e i j p = record {
  there = plain_found b at f h n next past e p (sym i ∙ j);
  inside = omega (arith, p, solid_inside b next (operator_ends b at f n next e h).1);
}
