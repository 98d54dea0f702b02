-- The literal at a place, arm by arm of the reader, and the numbers that must fit a word. Assumes nothing.
use Rattle.std.specs.Prelude.{Result, Ok, Err}
use Rattle.tokens.specs.Refusal.{refusal_at}
use Rattle.tokens.specs.declared.Refused.{Refused}
use Prim.Native.Nat.{ℕ, ◌+◌, ◌-◌, ◌<◌, ◌≤◌}
use native.Mathlib.Omega.{arith}
use mathlib.Core.Path.{◌≡◌, refl, sym, subst, ◌∙◌}
use mathlib.Core.List.{List, [], ◌∷◌}
use lib.ListN.{length, get_or}
use types.Run.{OneOf, miss}
use denote.Enum.Declared.{tag_of}
use Rattle.numbers.specs.declared.Number as num
use Rattle.tokens.specs.declared.Refusal.{Refusal}
use Rattle.tokens.specs.declared.Read.{Read}
use Rattle.tokens.specs.declared.Read.TheVariants as read
use Rattle.tokens.specs.declared.Form.TheVariants as form
use Rattle.tokens.specs.Token.{token_at}
use Rattle.tokens.proofs.Told.{Tells}
use Rattle.tokens.proofs.Theorems.{token_tells_all}
use Rattle.machine.specs.contracts.Role.{the_type}
use Rattle.machine.specs.declared.Role.{Role}
use Rattle.machine.specs.declared.Role.TheVariants as role
use Rattle.machine.specs.declared.Literal.TheVariants.{Figure, Name, Text, Plain, WithBody}
use Rattle.machine.specs.Limits.{most_open}
use Rattle.machine.specs.Skeleton.{role_of, solid, body_at}
use Rattle.machine.specs.Literal.{found, nothing_at, holding_by, holding_at, operator_by, found_by, found_at}
use Rattle.machine.proofs.Inside.{body_later}
use Rattle.machine.proofs.Bodies.{body_long}
use Rattle.nesting.proofs.BodyTurns.{no_operator}
use Rattle.literals.specs.declared.Due.{Due}
use Rattle.literals.specs.Dues.{Is}

pub nothing_is : (b : List ℕ) (d : Due) → d.literal ≡ Plain 0 → d.next ≡ length b → Is (nothing_at b) d
unfolding nothing_at
nothing_is b d e f = record { literal = e; next = f }

-- ---- an operator that holds a body

-- the body lies inside the bytes, its `{` and `}` with it
pub body_fits : (b : List ℕ) (next end : ℕ) (w : Result ℕ Refused) → w ≡ body_at most_open b next → w ≡ Ok end → (solid b next + 4 ≤ end) × (end ≤ length b)
body_fits b next end w e f = (body_long most_open b next end (sym e ∙ f), (rw (sym e ∙ f) at (body_later most_open b next)).1)

module _ (b : List ℕ) (n next : ℕ) (w : Result ℕ Refused) (d : Due) (e : w ≡ body_at most_open b next) where
  pub holding_found : (end s start len : ℕ) → w ≡ Ok end → s ≡ solid b next → start ≡ s + 2 → len ≡ end - 2 - (s + 2)
      → Is (found b (WithBody n start len) end) d → Is (holding_at b n next) d
  unfolding holding_at holding_by
  holding_found end s start len f g h i k = rw (← e, f, ← g, ← i, ← h) k

-- ---- an operator, by its role

-- a role that is not the second holds no body
pub no_holder : (r : Role) → OneOf (0 ∷ 2 ∷ 3 ∷ []) (tag_of the_type r) → r ≡ role.Holds → ⊥
no_holder r h e = miss (0 ∷ 2 ∷ 3 ∷ []) 1 tt (subst (λ (x : Role). OneOf (0 ∷ 2 ∷ 3 ∷ []) (tag_of the_type x)) e h)

none_found : (b : List ℕ) (n next : ℕ) (r : Role) → (r ≡ role.Plain → ⊥) → (r ≡ role.Holds → ⊥) → operator_by r b n next ≡ nothing_at b
unfolding operator_by
none_found b n next role.Plain h f = absurd (h refl)
none_found b n next role.Holds h f = absurd (f refl)
none_found b n next role.Closes h f = refl
none_found b n next role.Barred h f = refl

module _ (b : List ℕ) (n next : ℕ) (r : Role) (d : Due) (e : r ≡ role_of n) where
  pub as_plain : r ≡ role.Plain → Is (found b (Plain n) next) d → Is (operator_by (role_of n) b n next) d
  unfolding operator_by
  as_plain f k = rw (← e, f) k

  pub as_holder : r ≡ role.Holds → Is (holding_at b n next) d → Is (operator_by (role_of n) b n next) d
  unfolding operator_by
  as_holder f k = rw (← e, f) k

  -- a role that is neither of these
  pub as_none : (r ≡ role.Plain → ⊥) → (r ≡ role.Holds → ⊥) → Is (nothing_at b) d → Is (operator_by (role_of n) b n next) d
  as_none h f k = rw (← e, none_found b n next r h f) k

-- ---- a token

module _ (b : List ℕ) (at : ℕ) (t : Result Read Refused) (e : t ≡ token_at b at) where
  pub name_inside : (len next : ℕ) → t ≡ Ok (read.Identifier len next) → at + len < length b
  name_inside len next f =
      let h : Tells b at (Ok (read.Identifier len next)) = rw (sym e ∙ f) at (token_tells_all b at) in
      omega (arith, h.longer, h.inside)

  module _ (d : Due) where
    pub is_number : (value : num.Number) (next : ℕ) → t ≡ Ok (read.Number value next) → Is (found b (Figure value) next) d → Is (found_at b at) d
    unfolding found_at found_by
    is_number value next f k = rw (← e, f) k

    pub is_name_lem : (len next start l : ℕ) → t ≡ Ok (read.Identifier len next) → start ≡ at → l ≡ len → Is (found b (Name start l) next) d
        → Is (found_at b at) d
    unfolding found_at found_by
    is_name_lem len next start l f g h k = rw (← e, f, ← g, ← h) k

    pub is_text : (count next start : ℕ) → t ≡ Ok (read.String count next) → start ≡ at → Is (found b (Text start) next) d → Is (found_at b at) d
    unfolding found_at found_by
    is_text count next start f g k = rw (← e, f, ← g) k

    -- no operator is a sequence
    pub is_sequence : (n next : ℕ) → (at < length b) × (192 ≤ get_or b at 0) → t ≡ Ok (read.Operator n next) → Is (found_at b at) d
    is_sequence n next g f = absurd (rw (sym e ∙ f) at (no_operator b at form.Sequence refl g))

    pub is_comment : (next : ℕ) → t ≡ Ok (read.Comment next) → Is (nothing_at b) d → Is (found_at b at) d
    unfolding found_at found_by
    is_comment next f k = rw (← e, f) k

    pub is_unread : (r : Refusal) (p : ℕ) → t ≡ Err (refusal_at r p) → Is (nothing_at b) d → Is (found_at b at) d
    unfolding found_at found_by
    is_unread r p f k = rw (← e, f) k

    -- a token that is none of the three that may stand there
    pub is_other : (x : Read) → (at < length b) × (192 ≤ get_or b at 0) → t ≡ Ok x → ((value : num.Number) (next : ℕ) → x ≡ read.Number value next → ⊥)
        → ((len next : ℕ) → x ≡ read.Identifier len next → ⊥) → ((count next : ℕ) → x ≡ read.String count next → ⊥) → Is (nothing_at b) d
        → Is (found_at b at) d
    is_other (read.Number value next) g f n i s k = absurd (n value next refl)
    is_other (read.Identifier len next) g f n i s k = absurd (i len next refl)
    is_other (read.String count next) g f n i s k = absurd (s count next refl)
    is_other (read.Operator m next) g f n i s k = is_sequence m next g f
    is_other (read.Comment next) g f n i s k = is_comment next f k
