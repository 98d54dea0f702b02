-- What the reader keeps of a sequence's data, a piece at a time: each part of the summary, then the summary of joined data.
-- Assumes nothing.
use mathlib.Core.Path.{◌≡◌, refl, sym, ap, ◌∙◌}
use mathlib.Core.Bool.{Bool, true, cond, ◌&&◌}
use mathlib.Core.List.{List, [], ◌∷◌, ◌++◌}
use Prim.Native.Nat.{ℕ, zero, suc, ◌+◌, ◌-◌, ◌≤◌}
use native.Mathlib.Nat.{zero-add}
use native.Mathlib.Omega.{arith}
use lib.Dec.{eqb}
use lib.ListN.{length, get_or, take, drop, length-append}
use lib.Seq.{slice, length-slice, take-take, take-nil, drop-nil}
use borrow.Author.Tests.{ne_eqb}
use Rattle.tokens.specs.declared.Summary.{Summary}
use Rattle.tokens.specs.Bytes.{value_after}
use Rattle.tokens.specs.Text.{every}
use Rattle.tokens.specs.Inner.{rule_of, room_of, summary_of, added}
use Rattle.tokens.proofs.Rules.{every_append}
use Rattle.tokens.proofs.HighFirst.{value_append}

-- ---- parts of a part

pub take_drop : (n a : ℕ) (l : List ℕ) → take n (drop a l) ≡ drop a (take (a + n) l)
take_drop n zero l = rw (zero-add n)
take_drop n (suc a) [] = take-nil n ∙ sym (ap (drop (suc a)) (take-nil (suc a + n)) ∙ drop-nil (suc a))
take_drop n (suc a) (x ∷ l) = let e : suc a + n ≡ suc (a + n) = omega arith in rw e (take_drop n a l)

pub take_slice : (s : List ℕ) (a n len : ℕ) → n ≤ len → take n (slice a (a + len) s) ≡ slice a (a + n) s
take_slice s a n len h = take_drop n a (take (a + len) s) ∙ ap (drop a) (take-take (a + n) (a + len) s (omega arith))

pub part_length : (s : List ℕ) (a n : ℕ) → a + n ≤ length s → length (slice a (a + n) s) ≡ n
part_length s a n h = length-slice a (a + n) s h ∙ omega arith

-- ---- a piece more

pub made : (k : ℕ) (g : Summary) (e : List ℕ) (n f v : ℕ) (b : Bool) → length e ≡ n → f ≡ cond (eqb g.len 0) (get_or e 0 0) g.first → v ≡ value_after g.value (take (room_of k - g.len) e)
    → b ≡ g.good && every (rule_of k) e → ◌≡◌ {A = Summary} (record { len = g.len + n; first = f; value = v; good = b }) (added k g e)
unfolding added
made k g e n f v b p q u w = rw (← p, q, u, w)

-- ---- joined data

append_first : (d e : List ℕ) → get_or (d ++ e) 0 0 ≡ cond (eqb (length d) 0) (get_or e 0 0) (get_or d 0 0)
append_first [] e = refl
append_first (b ∷ d) e = rw (ne_eqb (suc (length d)) 0 (λ h. omega arith))

append_take : (n : ℕ) (d e : List ℕ) → take n (d ++ e) ≡ take n d ++ take (n - length d) e
append_take zero d e = let k : zero - length d ≡ zero = omega arith in rw k
append_take (suc n) [] e = let k : suc n - 0 ≡ suc n = omega arith in rw k
append_take (suc n) (b ∷ d) e = let k : suc n - suc (length d) ≡ n - length d = omega arith in rw k (ap (λ (l : List ℕ). b ∷ l) (append_take n d e))

pub summary_append : (k : ℕ) (d e : List ℕ) → summary_of k (d ++ e) ≡ added k (summary_of k d) e
unfolding summary_of added
summary_append k d e = rw (length-append d e, append_first d e, append_take (room_of k) d e, value_append 0 (take (room_of k) d) (take (room_of k - length d) e), every_append (rule_of k) d e)

pub summary_length : (k : ℕ) (d : List ℕ) → (summary_of k d).len ≡ length d
unfolding summary_of
summary_length k d = refl

abbrev pub nothing : Summary
nothing = record { len = 0; first = 0; value = 0; good = true }

empty : (k : ℕ) → summary_of k [] ≡ nothing
unfolding summary_of every value_after
empty k = rw (take-nil (room_of k))

-- data added to nothing
pub summary_first : (k : ℕ) (e : List ℕ) → added k nothing e ≡ summary_of k e
summary_first k e = sym (summary_append k [] e ∙ ap (λ (g : Summary). added k g e) (empty k))
