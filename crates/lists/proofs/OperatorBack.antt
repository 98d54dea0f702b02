-- An operator is read back, in its short and its long form. Assumes nothing.
use Rattle.std.specs.Prelude.{Ok}
use Rattle.std.proofs.Common.{◌≡◌, ℕ, ◌+◌, ◌*◌, ◌/◌, ◌%◌, ◌<◌, ◌≤◌, false, List, [], ◌∷◌, ◌++◌, length, get_or, arith, length-append, get_or-append-add, le-ltb, lt-ltb}
use lib.Seq.{get_or-append_seam}
use borrow.Author.Tests.{lt-leb}
use Rattle.tokens.specs.declared.Read.TheVariants.{Operator}
use Rattle.tokens.specs.Joined.{continued}
use Rattle.tokens.specs.Token.{token_at, token_of}
use Rattle.lists.specs.Written.{operator_bytes}
use Rattle.numbers.proofs.Cond.{split}

pub operator_short : (n : ℕ) → n < 32 → operator_bytes n ≡ (128 + n) ∷ []
unfolding operator_bytes
operator_short n h = rw (lt-ltb n 32 h)

pub operator_long : (n : ℕ) → 32 ≤ n → operator_bytes n ≡ (160 + n / 256) ∷ (n % 256) ∷ []
unfolding operator_bytes
operator_long n h = rw (le-ltb n 32 h)

short_back : (p r : List ℕ) (n : ℕ) → n < 32 → token_at (p ++ (128 + n) ∷ r) (length p) ≡ Ok (Operator n (length p + 1))
unfolding token_at token_of
short_back p r n h =
    let b : ℕ = 128 + n in
    let e : (128 + n) % 32 ≡ n = omega arith in
    rw (lt-ltb (length p) (length (p ++ b ∷ r)) (simp length-append (omega arith)), get_or-append_seam p b r 0, le-ltb b 128 (omega arith), lt-ltb b 160 (omega arith), e)

long_back : (p r : List ℕ) (n : ℕ) → n < 8192 → token_at (p ++ (160 + n / 256) ∷ (n % 256) ∷ r) (length p) ≡ Ok (Operator n (length p + 2))
unfolding token_at token_of
long_back p r n h =
    let b : ℕ = 160 + n / 256 in
    let s : List ℕ = p ++ b ∷ (n % 256) ∷ r in
    let e : (160 + n / 256) % 32 * 256 + n % 256 ≡ n = omega arith in
    rw (
      lt-ltb (length p) (length s) (simp length-append (omega arith)),
      get_or-append_seam p b ((n % 256) ∷ r) 0,
      get_or-append-add p (b ∷ (n % 256) ∷ r) 1 0,
      le-ltb b 128 (omega arith),
      le-ltb b 160 (omega arith),
      lt-ltb b 192 (omega arith),
      lt-ltb (length p + 1) (length s) (simp length-append (omega arith)),
      e,
    )

pub operator_back : (p r : List ℕ) (n : ℕ) → n < 8192
    → token_at (p ++ (operator_bytes n ++ r)) (length p) ≡ Ok (Operator n (length p + length (operator_bytes n)))
operator_back p r n h = split n 32 (λ g. rw (operator_short n g) (short_back p r n g)) (λ g. rw (operator_long n g) (long_back p r n h))

pub operator_plain : (n : ℕ) (r : List ℕ) → n < 8192 → continued (get_or (operator_bytes n ++ r) 0 0) ≡ false
operator_plain n r h =
    split n 32
    (λ g. rw (operator_short n g, lt-leb 192 (128 + n) (omega arith)))
    (λ g. rw (operator_long n g, lt-leb 192 (160 + n / 256) (omega arith)))

pub operator_some : (n : ℕ) → 1 ≤ length (operator_bytes n)
operator_some n = split n 32 (λ g. rw (operator_short n g) (omega arith)) (λ g. rw (operator_long n g) (omega arith))
