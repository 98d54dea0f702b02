-- What is known of a token that is read, by its first byte alone; and the data of a sequence, by their lengths. In order: its bytes; a sequence
-- judged; the data. Assumes nothing.
use Rattle.std.specs.Prelude.{Result, Ok, Err, Some, None}
use Rattle.tokens.specs.Refusal.{refusal_at}
use Rattle.tokens.specs.declared.Refused.{Refused}
use Rattle.tokens.specs.Joined.{piece_from}
use Rattle.tokens.specs.Inner.{gathered}
use mathlib.Core.Path.{◌≡◌, refl, sym, ap, ◌∙◌}
use mathlib.Core.Bool.{Bool, true, false, false≢true}
use mathlib.Core.List.{List}
use Prim.Native.Nat.{ℕ, ◌+◌, ◌%◌, ◌<◌, ◌≤◌}
use native.Mathlib.Omega.{arith}
use lib.Dec.{eqb}
use lib.ListN.{length, get_or}
use lib.Seq.{slice}
use borrow.Author.Tests.{lt-ltb, le-ltb}
use Rattle.numbers.specs.Fraction.{Answer}
use Rattle.numbers.specs.declared.NoNumber.TheVariants.{TooLarge, ByZero}
use Rattle.numbers.proofs.Cond.{either, split}
use Rattle.tokens.specs.declared.Read.{Read}
use Rattle.tokens.specs.declared.Read.TheVariants.{Identifier, String}
use Rattle.tokens.specs.declared.Form.{Form}
use Rattle.tokens.specs.declared.Form.TheVariants as form
use Rattle.tokens.specs.declared.Refusal.TheVariants.{CutOff}
use Rattle.tokens.specs.declared.Summary.{Summary}
use Rattle.tokens.specs.declared.Gathered.{Gathered}
use Rattle.tokens.specs.declared.Rule.TheVariants.{Plain, Named}
use Rattle.tokens.specs.Format.{string_type, integer_type, rational_type, identifier_type, comment_type, continued_type}
use Rattle.tokens.specs.Text.{every, is_name}
use Rattle.tokens.specs.Joined.{Joined, whole, cut_at, continued, piece_at, joined_from, joined_at}
use Rattle.tokens.specs.Token.{number_read, integer_size, rational_size, ruled, judged, sequence, token_of, token_at}
use Rattle.tokens.specs.Inner.{summary_of, gathered_of}
use Rattle.tokens.specs.Passing.{Shows, pass_of}
use Rattle.tokens.proofs.Theorems.{token_end}
use Rattle.tokens.proofs.Pieces.{joined_data, joined_missing}
use Rattle.tokens.proofs.Summaries.{summary_length, part_length}
use Rattle.tokens.proofs.Copying.{joined_one}
use Rattle.passing.specs.declared.Extent.{Extent}
use Rattle.passing.specs.Known.{Reads, Extends}

-- ---- its bytes

module _ (s : List ℕ) (at : ℕ) (h : Reads (token_at s at)) where
  pub stands : at < length s
  stands = split at (length s) (λ l. l) (λ g. absurd (rw (token_end s at g) at h))

  cut_number : get_or s at 0 < 128 → length s ≤ at + 1 → token_at s at ≡ Err (refusal_at CutOff at)
  unfolding token_at token_of
  cut_number b g = simp (lt-ltb at (length s) stands, lt-ltb (get_or s at 0) 128 b, le-ltb (at + 1) (length s) g)

  cut_operator : 160 ≤ get_or s at 0 → get_or s at 0 < 192 → length s ≤ at + 1 → token_at s at ≡ Err (refusal_at CutOff at)
  unfolding token_at token_of
  cut_operator a b g = simp (lt-ltb at (length s) stands, le-ltb (get_or s at 0) 128 (omega arith), le-ltb (get_or s at 0) 160 a, lt-ltb (get_or s at 0) 192 b, le-ltb (at + 1) (length s) g)

  -- numbers and long operators have a second byte
  pub number_pair : get_or s at 0 < 128 → at + 1 < length s
  number_pair b = split (at + 1) (length s) (λ l. l) (λ g. absurd (rw (cut_number b g) at h))

  pub operator_pair : 160 ≤ get_or s at 0 → get_or s at 0 < 192 → at + 1 < length s
  operator_pair a b = split (at + 1) (length s) (λ l. l) (λ g. absurd (rw (cut_operator a b g) at h))

-- what its form shows
pub sequence_shown : (s : List ℕ) (at : ℕ) (f : Form) → f ≡ form.Sequence → Shows s at f → (at < length s) × (192 ≤ get_or s at 0)
sequence_shown s at f e h = rw e at h

-- past it
module _ (s : List ℕ) (at : ℕ) (f : Form) (h : Shows s at f) where
  pub past_number : (raw next : ℕ) → f ≡ form.Number raw next → pass_of (token_at s at) ≡ Ok next
  unfolding pass_of
  past_number raw next e = rw (rw e at h)

  pub past_operator : (n next : ℕ) → f ≡ form.Operator n next → pass_of (token_at s at) ≡ Ok next
  unfolding pass_of
  past_operator n next e = rw (rw e at h)

-- ---- a sequence judged

-- if it is read at all, it ends there
abbrev Goes : ℕ → Result Read Refused → Type 0
Goes next t = Reads t → pass_of t ≡ Ok next

ruled_goes : (at next : ℕ) (b : Bool) (t : Result Read Refused) → Goes next t → Goes next (ruled at b t)
ruled_goes at next true t f = f
ruled_goes at next false t f = λ h. absurd h

number_goes : (at next : ℕ) (a : Answer) → Goes next (number_read at next a)
unfolding number_read pass_of
number_goes at next (Ok value) = λ _. refl
number_goes at next (Err TooLarge) = λ h. absurd h
number_goes at next (Err ByZero) = λ h. absurd h

judged_goes : (k at : ℕ) (d : List ℕ) (next : ℕ) → Goes next (judged k at d next)
unfolding judged pass_of
judged_goes k at d next =
    either (Goes next) (eqb k string_type) _ _ (λ _. ruled_goes at next (every Plain d) _ (λ _. refl))
    (λ _. either (Goes next) (eqb k integer_type) _ _ (λ _. ruled_goes at next (integer_size (length d)) _ (number_goes at next _))
    (λ _. either (Goes next) (eqb k rational_type) _ _ (λ _. ruled_goes at next (rational_size (length d)) _ (number_goes at next _))
    (λ _. either (Goes next) (eqb k identifier_type) _ _ (λ _. ruled_goes at next (is_name Named d) _ (λ _. refl))
    (λ _. either (Goes next) (eqb k comment_type) _ _ (λ _ _. refl)
    (λ _. either (Goes next) (eqb k continued_type) _ _ (λ _ h. absurd h) (λ _ h. absurd h))))))

ruled_read : (at : ℕ) (b : Bool) (t : Result Read Refused) → Reads (ruled at b t) → ruled at b t ≡ t
ruled_read at true t h = refl
ruled_read at false t h = absurd h

judged_text : (at : ℕ) (d : List ℕ) (next : ℕ) → Reads (judged 1 at d next) → judged 1 at d next ≡ Ok (String (length d) next)
unfolding judged
judged_text at d next h = ruled_read at (every Plain d) _ h

judged_name : (at : ℕ) (d : List ℕ) (next : ℕ) → Reads (judged 5 at d next) → judged 5 at d next ≡ Ok (Identifier (length d) next)
unfolding judged
judged_name at d next h = ruled_read at (is_name Named d) _ h

-- its data joined
pub record Sequence (s : List ℕ) (at : ℕ) : Type 0 where
  pub data_are : List ℕ
  pub next : ℕ
  pub joined : joined_at s at ≡ whole data_are next
  pub token : token_at s at ≡ judged (get_or s at 0 % 32) at data_are next

module _ (s : List ℕ) (at : ℕ) (high : 192 ≤ get_or s at 0) (h : Reads (token_at s at)) where
  as_sequence : token_at s at ≡ sequence (get_or s at 0 % 32) at (joined_at s at)
  unfolding token_at token_of
  as_sequence = simp (lt-ltb at (length s) (stands s at h), le-ltb (get_or s at 0) 128 (omega arith), le-ltb (get_or s at 0) 160 (omega arith), le-ltb (get_or s at 0) 192 high)

  pub joins : Sequence s at
  unfolding sequence
  joins = by_data (joined_at s at) refl
    where
      by_data : (j : Joined) → joined_at s at ≡ j → Sequence s at
      by_data (whole d next) e = record { data_are = d; next = next; joined = e; token = rw e at as_sequence }
      by_data (cut_at place) e = absurd (rw (as_sequence, e) at h)

  pub ends_there : (x : Extent) → Extends s at x → pass_of (token_at s at) ≡ Ok x.next
  ends_there x f =
      let j = joins in
      rw (j.token, (f j.data_are j.next j.joined).1) (judged_goes (get_or s at 0 % 32) at j.data_are j.next (rw j.token at h))

  module _ (x : Extent) (f : Extends s at x) where
    pub text_there : get_or s at 0 % 32 ≡ 1 → token_at s at ≡ Ok (String x.len x.next)
    text_there e =
        let j = joins in
        let t : token_at s at ≡ judged 1 at j.data_are j.next = rw e at j.token in
        let g = f j.data_are j.next j.joined in
        rw (g.0, g.1) (t ∙ judged_text at j.data_are j.next (rw t at h))

    pub name_there : get_or s at 0 % 32 ≡ 5 → token_at s at ≡ Ok (Identifier x.len x.next)
    name_there e =
        let j = joins in
        let t : token_at s at ≡ judged 5 at j.data_are j.next = rw e at j.token in
        let g = f j.data_are j.next j.joined in
        rw (g.0, g.1) (t ∙ judged_name at j.data_are j.next (rw t at h))

-- ---- the data

whole_same : (d e : List ℕ) (n m : ℕ) → whole d n ≡ whole e m → (d ≡ e) × (n ≡ m)
whole_same d e n m h = (cc, cc)

not_cut : (d : List ℕ) (n place : ℕ) → cut_at place ≡ whole d n → ⊥
not_cut d n place h = false≢true (cc)

module _ (s : List ℕ) (at f n : ℕ) (p : piece_at s at ≡ Some (piece_from f n)) where
  -- in one piece
  pub extends_one : f + n ≤ length s → continued (get_or s (f + n) 0) ≡ false → (x : Extent) → x.len ≡ n → x.next ≡ f + n → Extends s at x
  extends_one i h x a b d next e =
      let g = whole_same _ d (f + n) next (sym (joined_one s at f n p h) ∙ e) in
      (a ∙ rw g.0 at (sym (part_length s f n i)), b ∙ g.1)

  -- gathered
  pub extends_more : (k : ℕ) (g : Result Gathered Refused) (sum : Summary) (past : ℕ) → g ≡ gathered_of k (joined_from (length s) s (f + n) (slice f (f + n) s)) → g ≡ Ok (gathered sum past) → (x : Extent) → x.len ≡ sum.len → x.next ≡ past
      → Extends s at x
  unfolding gathered_of
  extends_more k g sum past u v x a b d next e =
      let t : joined_from (length s) s (f + n) (slice f (f + n) s) ≡ whole d next = sym (joined_data s at f n p) ∙ e in
      let w : Ok (gathered sum past) ≡ Ok (gathered (summary_of k d) next) = sym v ∙ rw t at u in
      let both : gathered sum past ≡ gathered (summary_of k d) next = cc in
      let y : sum ≡ summary_of k d = ap (λ (q : Gathered). q.sum) both in
      let z : past ≡ next = ap (λ (q : Gathered). q.next) both in
      (a ∙ rw y (summary_length k d), b ∙ z)

  pub extends_broken : (k : ℕ) (g : Result Gathered Refused) (r : Refused) → g ≡ gathered_of k (joined_from (length s) s (f + n) (slice f (f + n) s)) → g ≡ Err r → (x : Extent) → Extends s at x
  unfolding gathered_of
  extends_broken k g r u v x d next e =
      let t : joined_from (length s) s (f + n) (slice f (f + n) s) ≡ whole d next = sym (joined_data s at f n p) ∙ e in
      let w : Err r ≡ Ok (gathered (summary_of k d) next) = sym v ∙ rw t at u in
      absurd (false≢true (cc))

pub extends_missing : (s : List ℕ) (at : ℕ) → piece_at s at ≡ None → (x : Extent) → Extends s at x
extends_missing s at p x d next e = absurd (not_cut d next at (sym (joined_missing s at p) ∙ e))
