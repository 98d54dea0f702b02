-- The rules on a sequence's data, test by test, and what is answered where they hold and where one fails. Assumes nothing.
use Rattle.std.specs.Prelude.{Result, Err}
use Rattle.tokens.specs.Refusal.{refusal_at}
use Rattle.tokens.specs.declared.Refused.{Refused}
use mathlib.Core.Path.{◌≡◌, sym, ◌∙◌}
use mathlib.Core.Bool.{Bool, true, false, ◌&&◌, and_assoc}
use Prim.Native.Nat.{ℕ, ◌%◌, ◌≤◌}
use lib.Dec.{leb, eqb}
use borrow.Author.Tests.{leb-true, eqb-true}
use Rattle.tokens.specs.declared.Read.{Read}
use Rattle.tokens.specs.declared.Refusal.TheVariants.{BadData}
use Rattle.tokens.specs.Token.{integer_size, rational_size, ruled}
use Rattle.numbers.proofs.Cond.{both, no_left, no_right}

pub ruled_not : (at : ℕ) (good : Bool) (t r : Result Read Refused) → good ≡ false → r ≡ Err (refusal_at BadData at) → r ≡ ruled at good t
ruled_not at good t r h e = rw (h, e)

pub ruled_is : (at : ℕ) (good : Bool) (t r : Result Read Refused) → good ≡ true → r ≡ t → r ≡ ruled at good t
ruled_is at good t r h e = rw (h, e)

module _ (n : ℕ) where
  pub integer_few : integer_size n ≡ true → n ≤ 4
  integer_few h = leb-true n 4 (both (leb 1 n) (leb n 4) h).1

  pub rational_few : rational_size n ≡ true → (n % 2 ≡ 0) × (n ≤ 8)
  rational_few h =
      let e = both (eqb (n % 2) 0) (leb 2 n && leb n 8) h in
      (eqb-true (n % 2) 0 e.0, leb-true n 8 (both (leb 2 n) (leb n 8) e.1).1)

  pub name_some : leb 1 n && leb n 100 ≡ true → 1 ≤ n
  name_some h = leb-true 1 n (both (leb 1 n) (leb n 100) h).0

-- 1 to 100 bytes, the first a letter, each by the rule
module _ (n : ℕ) (letter good : Bool) where
  abbrev pub named : Bool
  named = leb 1 n && (leb n 100 && (letter && good))

  grouped : named ≡ (leb 1 n && leb n 100) && (letter && good)
  grouped = sym (and_assoc (leb 1 n) (leb n 100) (letter && good))

  pub named_size : leb 1 n && leb n 100 ≡ false → named ≡ false
  named_size h = grouped ∙ no_left (leb 1 n && leb n 100) (letter && good) h

  pub named_letter : letter ≡ false → named ≡ false
  named_letter h = no_right (leb 1 n) _ (no_right (leb n 100) _ (no_left letter good h))

  pub named_bad : good ≡ false → named ≡ false
  named_bad h = no_right (leb 1 n) _ (no_right (leb n 100) _ (no_right letter good h))

  pub named_is : leb 1 n && leb n 100 ≡ true → letter ≡ true → good ≡ named
  named_is h l = sym (grouped ∙ rw (h, l))
