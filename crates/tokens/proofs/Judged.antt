-- What the reader keeps of the data is enough to judge them. Assumes nothing.
use Rattle.std.specs.Prelude.{Ok, Err}
use Rattle.tokens.specs.Refusal.{refusal_at}
use Rattle.tokens.specs.Inner.{gathered}
use mathlib.Core.Path.{◌≡◌, sym, ap, ◌∙◌}
use mathlib.Core.List.{List}
use Prim.Native.Nat.{ℕ, ◌+◌, ◌/◌, ◌≤◌}
use native.Mathlib.Omega.{arith}
use lib.Dec.{eqb}
use lib.IntN.{pos}
use lib.ListN.{length, take}
use lib.Seq.{take_all}
use borrow.Author.Tests.{eqb-true}
use Rattle.numbers.specs.Fraction.{ratio_of}
use Rattle.tokens.specs.declared.Gathered.{Gathered}
use Rattle.tokens.specs.declared.Refusal.TheVariants.{CutOff, BadData}
use Rattle.tokens.specs.declared.Refused.{Refused}
use Rattle.tokens.specs.declared.Summary.{Summary}
use Rattle.tokens.specs.Bytes.{value_after, signed_of}
use Rattle.tokens.specs.Text.{is_name}
use Rattle.tokens.specs.Joined.{Joined, whole, cut_at}
use Rattle.tokens.specs.Token.{number_read, integer_size, rational_size, rational_in, judged, sequence}
use Rattle.tokens.specs.Inner.{rule_of, room_of, summary_of, gathered_of, rational_by, judged_by}
use Rattle.numbers.proofs.Cond.{under, by_test}
use Rattle.table.proofs.WordLists.{Bytes}
use Rattle.tokens.proofs.HighFirst.{halves}
use Rattle.tokens.proofs.Sizes.{integer_few, rational_few}

-- the value of at most eight bytes is that of the first eight
first_eight : (d : List ℕ) → length d ≤ 8 → value_after 0 (take 8 d) ≡ value_after 0 d
first_eight d h = ap (value_after 0) (take_all 8 d h)

integer_is : (at : ℕ) (d : List ℕ) (next : ℕ) → judged_by 2 at (summary_of 2 d) next ≡ judged 2 at d next
unfolding judged_by judged summary_of room_of
integer_is at d next =
    under (integer_size (length d)) _ _ (Err (refusal_at BadData at))
    (λ h. ap (λ (v : ℕ). number_read at next (ratio_of (signed_of (length d) v) (pos 1))) (first_eight d (omega (arith, integer_few (length d) h))))

-- judging the value of two halves is judging the halves
pub rational_by_lem : (h : ℕ) (d : List ℕ) → length d ≡ h + h → Bytes d → rational_by h (value_after 0 d) ≡ rational_in h d
unfolding rational_by
rational_by_lem h d l b = rw ((halves h d l b).0, (halves h d l b).1)

rational_is : (at : ℕ) (d : List ℕ) (next : ℕ) → Bytes d → judged_by 4 at (summary_of 4 d) next ≡ judged 4 at d next
unfolding judged_by judged summary_of room_of
rational_is at d next b =
    under (rational_size (length d)) _ _ (Err (refusal_at BadData at))
    (λ h. let few = rational_few (length d) h in
    let halved : length d ≡ length d / 2 + length d / 2 = omega (arith, few.0) in
    ap (number_read at next) (ap (rational_by (length d / 2)) (first_eight d few.1) ∙ rational_by_lem (length d / 2) d halved b))

pub judged_is : (k at : ℕ) (d : List ℕ) (next : ℕ) → Bytes d → judged_by k at (summary_of k d) next ≡ judged k at d next
unfolding judged_by judged summary_of rule_of is_name
judged_is k at d next b =
    by_test (eqb k 1) (λ e. rw (eqb-true k 1 e))
    (λ n1. by_test (eqb k 2) (λ e. rw (eqb-true k 2 e) (integer_is at d next))
    (λ n2. by_test (eqb k 4) (λ e. rw (eqb-true k 4 e) (rational_is at d next b))
    (λ n4. by_test (eqb k 5) (λ e. rw (eqb-true k 5 e)) (λ n5. rw (n1, n2, n4, n5)))))

-- every byte of whole data is a byte
abbrev pub AllBytes : Joined → Type 0
AllBytes (whole d next) = Bytes d
AllBytes (cut_at place) = Unit

pub sequence_whole : (k at : ℕ) (J : Joined) (g : Summary) (next : ℕ) → AllBytes J → gathered_of k J ≡ Ok (gathered g next) → judged_by k at g next ≡ sequence k at J
unfolding gathered_of sequence
sequence_whole k at (whole d n) g next b e =
    let both : gathered (summary_of k d) n ≡ gathered g next = cc in
    let p : summary_of k d ≡ g = ap (λ (x : Gathered). x.sum) both in
    let q : n ≡ next = ap (λ (x : Gathered). x.next) both in
    rw (← p, ← q) (judged_is k at d n b)
sequence_whole k at (cut_at place) g next b e = cc

pub sequence_broken : (k at : ℕ) (J : Joined) (w : Refused) → gathered_of k J ≡ Err w → Err w ≡ sequence k at J
unfolding gathered_of sequence
sequence_broken k at (whole d n) w e = cc
sequence_broken k at (cut_at p) w e = cc

-- what is broken is cut off, at the place that the refusal has
pub sequence_cut : (k at : ℕ) (J : Joined) (w : Refused) → gathered_of k J ≡ Err w → Err (refusal_at CutOff w.place) ≡ sequence k at J
unfolding gathered_of sequence
sequence_cut k at (whole d n) w e = cc
sequence_cut k at (cut_at p) w e =
    let f : refusal_at CutOff p ≡ w = cc in
    ap (λ (v : Refused). Err (refusal_at CutOff v.place)) (sym f)
