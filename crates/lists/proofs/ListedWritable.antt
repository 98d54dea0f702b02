-- The tokens of a list that is judged writable are writable. Assumes nothing.
use Rattle.std.proofs.Common.{◌≡◌, ℕ, zero, suc, ◌+◌, Bool, true, ◌&&◌, eqb, ltb, leb, List, [], ◌∷◌, ◌++◌, length, refl, subst, w32, to_z}
use lib.Seq.{slice}
use Rattle.table.specs.Words.{word_at}
use Rattle.items.specs.Tokens.{Token, number, identifier, string, operator, writable, all_writable}
use Rattle.items.specs.Listing.{Entry, writes, bad, entry, in_table, entry_of, entry_at, Listed, all, wrong, on_entry, listed_from, listed}
use Rattle.numbers.proofs.Cond.{either, both, both_are}

-- an entry's token is writable
abbrev Sound : Entry → Type 0
Sound (writes t) = writable t ≡ true
Sound bad = Unit

entry_sound : (right : Bool) (t : Token) → Sound (entry right t)
unfolding entry
entry_sound right t = either Sound (right && writable t) (writes t) bad (λ e. (both right (writable t) e).1) (λ e. tt)

of_sound : (x : List ℕ) (k a b c : ℕ) → Sound (entry_of x k a b c)
unfolding entry_of
of_sound x k a b c =
    let in_it = eqb c 0 && in_table x a b in
    either Sound (eqb k 1) _ _ (λ _. entry_sound (eqb c 0) (number (record { num = to_z w32 a; den = b })))
    (λ _. either Sound (eqb k 2) _ _ (λ _. entry_sound in_it (identifier (slice a (a + b) x)))
    (λ _. either Sound (eqb k 3) _ _ (λ _. entry_sound in_it (string (slice a (a + b) x)))
    (λ _. either Sound (eqb k 4) _ bad (λ _. entry_sound (eqb b 0 && eqb c 0) (operator a)) (λ _. tt))))

at_sound : (l x : List ℕ) (at : ℕ) → Sound (entry_at l x at)
unfolding entry_at
at_sound l x at = either Sound (leb (at + 16) (length l)) _ bad (λ _. of_sound x (word_at l at) (word_at l (at + 4)) (word_at l (at + 8)) (word_at l (at + 12))) (λ _. tt)

abbrev AllSound : Listed → Type 0
AllSound (all ts) = all_writable ts ≡ true
AllSound (wrong i) = Unit

snoc_sound : (ts : List Token) (t : Token) → all_writable ts ≡ true → writable t ≡ true → all_writable (ts ++ (t ∷ [])) ≡ true
unfolding all_writable
snoc_sound [] t a w = both_are (writable t) true w refl
snoc_sound (u ∷ ts) t a w =
    let h = both (writable u) (all_writable ts) a in
    both_are (writable u) (all_writable (ts ++ (t ∷ []))) h.0 (snoc_sound ts t h.1 w)

on_sound_lem : (at : ℕ) (ts : List Token) (e : Entry) (more : List Token → Listed) → Sound e → all_writable ts ≡ true → ((us : List Token) → all_writable us ≡ true → AllSound (more us)) → AllSound (on_entry at ts e more)
unfolding on_entry
on_sound_lem at ts (writes t) more w a f = f (ts ++ (t ∷ [])) (snoc_sound ts t a w)
on_sound_lem at ts bad more w a f = tt

from_sound : (k : ℕ) (l x : List ℕ) (at : ℕ) (ts : List Token) → all_writable ts ≡ true → AllSound (listed_from k l x at ts)
unfolding listed_from
from_sound zero l x at ts a = a
from_sound (suc k) l x at ts a =
    either AllSound (ltb at (length l)) _ (all ts)
    (λ _. on_sound_lem at ts (entry_at l x at) (listed_from k l x (at + 16)) (at_sound l x at) a (λ us b. from_sound k l x (at + 16) us b))
    (λ _. a)

pub listed_writable : (l x : List ℕ) (ts : List Token) → listed l x ≡ all ts → all_writable ts ≡ true
unfolding listed all_writable
listed_writable l x ts e = subst AllSound e (from_sound (length l) l x 0 [] refl)
