-- A written token is read back as itself, whatever stands before it, if what stands after it does not continue it; and no written token
-- continues another. Assumes nothing.
use Rattle.std.proofs.Common.{◌≡◌, ℕ, ◌+◌, ◌≤◌, Bool, true, false, ◌&&◌, ◌||◌, eqb, leb, List, [], ◌∷◌, ◌++◌, length, get_or, refl, arith, ltb-true, ne_eqb, le-leb}
use borrow.Author.Tests.{lt-leb}
use Rattle.tokens.specs.declared.Rule.TheVariants.{Named, Lowered}
use Rattle.tokens.specs.Format.{string_type, identifier_type, longest_name}
use Rattle.tokens.specs.Text.{is_upper, is_lower, is_digit, is_letter, obeys, every, is_name, lower_of, lowered}
use Rattle.tokens.specs.Joined.{continued}
use Rattle.tokens.specs.Token.{token_at, judged}
use Rattle.items.specs.Tokens.{Token, number, identifier, string, operator, writable}
use Rattle.lists.specs.Written.{token_bytes}
use Rattle.lists.specs.Reading.{Got, on_read}
use Rattle.tokens.specs.Joined.{data_of}
use Rattle.numbers.proofs.Cond.{both, split, both_are}
use Rattle.lists.proofs.SequenceBack.{sequence_back, sequence_plain, sequence_length}
use Rattle.lists.proofs.OperatorBack.{operator_back, operator_plain, operator_some}
use Rattle.lists.proofs.NumberBack.{number_back, number_plain, number_some}

-- ---- identifiers in lower case

or_right : (a b c : Bool) → b || c ≡ true → (a || b) || c ≡ true
or_right true true c e = refl
or_right true false true e = refl
or_right true false false e = refl
or_right false b c e = e

obeys_named : (b : ℕ) → obeys Lowered b ≡ true → obeys Named b ≡ true
unfolding obeys
obeys_named b e = or_right (is_upper b) (is_lower b) (is_digit b || eqb b 45) e

every_named : (d : List ℕ) → every Lowered d ≡ true → every Named d ≡ true
unfolding every
every_named [] e = refl
every_named (b ∷ d) e =
    let h = both (obeys Lowered b) (every Lowered d) e in
    both_are (obeys Named b) (every Named d) (obeys_named b h.0) (every_named d h.1)

-- a name in lower case is a name, every byte of it lower
name_is : (d : List ℕ) → is_name Lowered d ≡ true → (is_name Named d ≡ true) × (every Lowered d ≡ true)
unfolding is_name
name_is d e =
    let n = leb 1 (length d) in
    let m = leb (length d) longest_name in
    let l = is_letter (get_or d 0 0) in
    let f = both n (m && (l && every Lowered d)) e in
    let g = both m (l && every Lowered d) f.1 in
    let h = both l (every Lowered d) g.1 in
    (both_are n _ f.0 (both_are m _ g.0 (both_are l _ h.0 (every_named d h.1))), h.1)

lower_kept : (b : ℕ) → obeys Lowered b ≡ true → lower_of b ≡ b
unfolding obeys lower_of
lower_kept b e =
    split b 65
    (λ h. rw (lt-leb 65 b h))
    (λ h. split 90 b
    (λ g. rw (le-leb 65 b h, lt-leb b 90 g))
    (λ g.
    let f : false ≡ true = rw (lt-leb 97 b (omega arith), le-leb 48 b (omega arith), lt-leb b 57 (omega arith), ne_eqb b 45 (λ z. omega arith)) at e in
    absurd (let z : ◌≡◌ {A = ℕ} 0 1 = cc in omega arith)))

lowered_kept : (d : List ℕ) → every Lowered d ≡ true → lowered d ≡ d
unfolding every lowered
lowered_kept [] e = refl
lowered_kept (b ∷ d) e =
    let h = both (obeys Lowered b) (every Lowered d) e in
    rw (lower_kept b h.0, lowered_kept d h.1)

-- ---- every token

-- the step of reading that a written token makes
pub step_back : (p r : List ℕ) (t : Token) → writable t ≡ true → length (token_bytes t) ≤ 16777215 → continued (get_or r 0 0) ≡ false → (ts : List Token) (more : ℕ → List Token → Got)
    → on_read (p ++ (token_bytes t ++ r)) (length p) ts (token_at (p ++ (token_bytes t ++ r)) (length p)) more ≡ more (length p + length (token_bytes t)) (ts ++ (t ∷ []))
unfolding writable token_bytes on_read data_of judged
step_back p r (number a) w fits last ts more = rw (number_back a w p r last)
step_back p r (identifier d) w fits last ts more =
    let b = sequence_back p r identifier_type d (omega arith) (omega (arith, sequence_length identifier_type d)) last in
    let n = name_is d w in
    rw (b.1, n.0, b.0, lowered_kept d n.1)
step_back p r (string d) w fits last ts more =
    let b = sequence_back p r string_type d (omega arith) (omega (arith, sequence_length string_type d)) last in
    rw (b.1, w, b.0)
step_back p r (operator n) w fits last ts more = rw (operator_back p r n (ltb-true n 8192 w))

-- no written token continues a sequence
pub head_plain : (t : Token) (r : List ℕ) → writable t ≡ true → continued (get_or (token_bytes t ++ r) 0 0) ≡ false
unfolding writable token_bytes
head_plain (number a) r w = number_plain a r
head_plain (identifier d) r w = sequence_plain identifier_type d r (omega arith) (λ e. omega arith)
head_plain (string d) r w = sequence_plain string_type d r (omega arith) (λ e. omega arith)
head_plain (operator n) r w = operator_plain n r (ltb-true n 8192 w)

-- a written token has a byte
pub some_byte : (t : Token) → 1 ≤ length (token_bytes t)
unfolding token_bytes
some_byte (number a) = number_some a
some_byte (identifier d) = omega (arith, sequence_length identifier_type d)
some_byte (string d) = omega (arith, sequence_length string_type d)
some_byte (operator n) = operator_some n
