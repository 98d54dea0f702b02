-- The tests of a token in a table, each by itself: the definition is their conjunction, so that their order is free. In order: a
-- conjunction; an entry; numbers; texts; operators; the entry by its kind and at its place. Assumes nothing.
use Rattle.std.specs.Prelude.{Option, Some, None}
use mathlib.Core.Path.{◌≡◌, refl, sym, ◌∙◌}
use mathlib.Core.Bool.{Bool, true, false, ◌&&◌}
use mathlib.Core.List.{List}
use Prim.Native.Nat.{ℕ, ◌+◌, ◌<◌, ◌≤◌}
use native.Mathlib.Omega.{arith}
use lib.Dec.{ltb, leb, eqb}
use lib.ListN.{length}
use lib.Seq.{slice}
use lib.IntN.{nat_abs}
use mir.Syntax.{w32}
use mir.Val.{to_z}
use borrow.Author.Tests.{lt-ltb, le-ltb, le-leb, lt-leb, ne_eqb}
use Rattle.numbers.specs.Fraction.{is_fraction}
use Rattle.numbers.proofs.Cond.{no_left, no_right}
use Rattle.table.specs.Words.{word_at}
use Rattle.items.specs.declared.Item.{Item}
use Rattle.items.specs.declared.Item.TheVariants.{Number, Operator}
use Rattle.items.specs.Tokens.{Token, identifier, string, operator, writable}
use Rattle.items.specs.Listing.{writes, entry, in_table, entry_of, entry_at}
use Rattle.items.specs.Judged.{number_in, text_token, entry_is, Judged}

module _ (x : List ℕ) (q : Bool) (t : Token) where
  judged_no : q && writable t ≡ false → Judged x (entry q t) None
  unfolding entry entry_is
  judged_no e = record { is = rw e; good = tt }

  pub judged_left : q ≡ false → Judged x (entry q t) None
  judged_left e = judged_no (no_left q (writable t) e)

  -- w is what was answered to the question whether t can be written
  pub judged_right : (w : Bool) → w ≡ writable t → w ≡ false → Judged x (entry q t) None
  judged_right w f e = judged_no (no_right q (writable t) (sym f ∙ e))

  pub judged_yes : (r : Option Item) (w : Bool) → q ≡ true → w ≡ writable t → w ≡ true → Judged x (writes t) r → Judged x (entry q t) r
  unfolding entry
  judged_yes r w e f g j = record { is = j.is ∙ rw (e, ← f, g); good = j.good }

-- a number
pub fraction_is : (a b size : ℕ) (t : Bool) → size ≡ nat_abs (to_z w32 a) → t ≡ is_fraction size b → t ≡ writable (number_in a b)
unfolding writable
fraction_is a b size t e f = rw (f, e)

pub number_here : (x : List ℕ) (a b : ℕ) → Judged x (writes (number_in a b)) (Some (Number a b))
unfolding entry_is
number_here x a b = record { is = refl; good = tt }

-- a text's place
module _ (x : List ℕ) (a b c : ℕ) where
  pub rest_bad : (c ≡ 0 → ⊥) → eqb c 0 && in_table x a b ≡ false
  rest_bad h = no_left (eqb c 0) (in_table x a b) (ne_eqb c 0 h)

  pub start_bad : 2147483647 < a → eqb c 0 && in_table x a b ≡ false
  unfolding in_table
  start_bad h = no_right (eqb c 0) _ (no_left (ltb a 2147483648) _ (le-ltb a 2147483648 (omega arith)))

  pub length_bad : 2147483647 < b → eqb c 0 && in_table x a b ≡ false
  unfolding in_table
  length_bad h = no_right (eqb c 0) _ (no_right (ltb a 2147483648) _ (no_left (ltb b 2147483648) (leb (a + b) (length x)) (le-ltb b 2147483648 (omega arith))))

  pub end_bad : length x < a + b → eqb c 0 && in_table x a b ≡ false
  unfolding in_table
  end_bad h = no_right (eqb c 0) _ (no_right (ltb a 2147483648) _ (no_right (ltb b 2147483648) (leb (a + b) (length x)) (lt-leb (a + b) (length x) h)))

  pub place_good : c ≡ 0 → a ≤ 2147483647 → b ≤ 2147483647 → a + b ≤ length x → eqb c 0 && in_table x a b ≡ true
  unfolding in_table
  place_good e g h k = rw (e, lt-ltb a 2147483648 (omega arith), lt-ltb b 2147483648 (omega arith), le-leb (a + b) (length x) k)

-- a text by its kind
pub text_named : (named : Bool) (d : List ℕ) → named ≡ true → text_token named d ≡ identifier d
unfolding text_token
text_named named d e = rw e

pub text_unnamed : (named : Bool) (d : List ℕ) → named ≡ false → text_token named d ≡ string d
unfolding text_token
text_unnamed named d e = rw e

-- an operator
pub operator_large : (x : List ℕ) (a b c : ℕ) → 8191 < a → Judged x (entry (eqb b 0 && eqb c 0) (operator a)) None
unfolding writable
operator_large x a b c h = judged_right x (eqb b 0 && eqb c 0) (operator a) (ltb a 8192) refl (le-ltb a 8192 (omega arith))

pub operator_here : (x : List ℕ) (a b c : ℕ) → a ≤ 8191 → b ≡ 0 → c ≡ 0 → Judged x (entry (eqb b 0 && eqb c 0) (operator a)) (Some (Operator a))
unfolding entry_is writable
operator_here x a b c h e f =
    judged_yes x (eqb b 0 && eqb c 0) (operator a) (Some (Operator a)) (ltb a 8192) (rw (e, f)) refl (lt-ltb a 8192 (omega arith))
    (record { is = refl; good = omega arith })

-- the entry by its kind
module _ (x : List ℕ) (k a b c : ℕ) where
  pub kind_1 : k ≡ 1 → entry_of x k a b c ≡ entry (eqb c 0) (number_in a b)
  unfolding entry_of
  kind_1 e = rw e

  pub kind_2 : k ≡ 2 → entry_of x k a b c ≡ entry (eqb c 0 && in_table x a b) (text_token true (slice a (a + b) x))
  unfolding entry_of text_token
  kind_2 e = rw e

  pub kind_3 : k ≡ 3 → entry_of x k a b c ≡ entry (eqb c 0 && in_table x a b) (text_token false (slice a (a + b) x))
  unfolding entry_of text_token
  kind_3 e = rw e

  pub kind_4 : k ≡ 4 → entry_of x k a b c ≡ entry (eqb b 0 && eqb c 0) (operator a)
  unfolding entry_of
  kind_4 e = rw e

  pub kind_none : (k ≡ 1 → ⊥) → (k ≡ 2 → ⊥) → (k ≡ 3 → ⊥) → (k ≡ 4 → ⊥) → Judged x (entry_of x k a b c) None
  unfolding entry_of entry_is
  kind_none e f g h = record { is = rw (ne_eqb k 1 e, ne_eqb k 2 f, ne_eqb k 3 g, ne_eqb k 4 h); good = tt }

-- the entry at a place
pub entry_cut : (l x : List ℕ) (at : ℕ) → length l < at + 16 → Judged x (entry_at l x at) None
unfolding entry_at entry_is
entry_cut l x at h = record { is = rw (lt-leb (at + 16) (length l) h); good = tt }

pub entry_there : (l x : List ℕ) (at k a b c : ℕ) → at + 16 ≤ length l → k ≡ word_at l at → a ≡ word_at l (at + 4) → b ≡ word_at l (at + 8) → c ≡ word_at l (at + 12) → entry_at l x at ≡ entry_of x k a b c
unfolding entry_at
entry_there l x at k a b c h e f g i = rw (le-leb (at + 16) (length l) h, ← e, ← f, ← g, ← i)
