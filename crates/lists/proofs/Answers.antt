-- What measuring answered decides what writing answers and leaves. Assumes nothing.
use Rattle.std.specs.Prelude.{Ok, Err}
use Rattle.tokens.specs.Refusal.{refusal_at}
use Rattle.std.proofs.Common.{◌≡◌, ℕ, ◌<◌, ◌≤◌, leb, List, length, sym, refl, ◌∙◌, arith, le-leb}
use lib.Seq.{sets}
use borrow.Author.Tests.{lt-leb}
use Rattle.numbers.proofs.Cond.{no_left, no_right, split}
use Rattle.table.proofs.Stores.{front}
use Rattle.tokens.specs.Refusal.{Outcome}
use Rattle.tokens.specs.declared.Refused.{Refused}
use Rattle.tokens.specs.declared.Refusal.TheVariants.{NotWritable, NoRoom}
use Rattle.items.specs.Tokens.{Token}
use Rattle.lists.specs.Written.{written_of}
use Rattle.items.specs.Listing.{Listed, all, wrong, listed}
use Rattle.lists.specs.Promise.{over, write_answer, write_leaves, Writes}
use Rattle.lists.specs.Inner.{capped, measured_of, Fits, tokens_in}

capped_small : (m : ℕ) → capped m ≤ 16777215 → capped m ≡ m
unfolding capped
capped_small m = split 16777216 m (λ h. rw (lt-leb m 16777216 h) (λ g. absurd (omega arith))) (λ h. rw (le-leb m 16777216 h) (λ g. refl))

capped_big : (m : ℕ) → 16777215 < capped m → 16777215 < m
unfolding capped
capped_big m = split 16777216 m (λ h. rw (lt-leb m 16777216 h) (λ g. omega arith)) (λ h. rw (le-leb m 16777216 h) (λ g. omega arith))

clash : {A : Type 0} (w : Refused) (len : ℕ) → Ok len ≡ Err w → A
clash w len e = absurd cc

len_is : (ts : List Token) (len : ℕ) → ◌≡◌ {A = Outcome} (Ok len) (Ok (capped (length (written_of ts)))) → len ≡ capped (length (written_of ts))
len_is ts len e = cc

-- the pair that `write` promises, over what the list is
abbrev Ends : Listed → List ℕ → Outcome → List ℕ → Type 0
Ends J out r out' = (r ≡ write_answer J (length out)) × (out' ≡ write_leaves J out)

ends_wrong : (J : Listed) (out : List ℕ) (w : Refused) → Err w ≡ measured_of J → Ends J out (Err w) out
unfolding measured_of write_answer write_leaves
ends_wrong (all ts) out w e = clash w (capped (length (written_of ts))) (sym e)
ends_wrong (wrong j) out w e = (e, refl)

ends_long : (J : Listed) (out : List ℕ) (len : ℕ) → Ok len ≡ measured_of J → 16777215 < len → Ends J out (Err (refusal_at NoRoom 0)) out
unfolding measured_of write_answer write_leaves
ends_long (all ts) out len e h =
    let f = capped_big (length (written_of ts)) (rw (len_is ts len e) at h) in
    let g = no_right (leb (length (written_of ts)) (length out)) (leb (length (written_of ts)) 16777215) (lt-leb (length (written_of ts)) 16777215 f) in
    (rw g, rw g)
ends_long (wrong j) out len e h = clash (refusal_at NotWritable j) len e

-- a length that was not cut short
small : (J : Listed) (len : ℕ) → Ok len ≡ measured_of J → len ≤ 16777215 → (ts : List Token) → J ≡ all ts → len ≡ length (written_of ts)
unfolding measured_of
small J len e h ts f =
    let g = len_is ts len (rw f at e) in
    g ∙ capped_small (length (written_of ts)) (rw g at h)

ends_full : (J : Listed) (out : List ℕ) (len : ℕ) → Ok len ≡ measured_of J → len ≤ 16777215 → length out < len → Ends J out (Err (refusal_at NoRoom 0)) out
unfolding measured_of write_answer write_leaves
ends_full (all ts) out len e h k =
    let f = small (all ts) len e h ts refl in
    let g = no_left (leb (length (written_of ts)) (length out)) (leb (length (written_of ts)) 16777215) (lt-leb (length (written_of ts)) (length out) (omega arith)) in
    (rw g, rw g)
ends_full (wrong j) out len e h k = clash (refusal_at NotWritable j) len e

pub fits_there : (J : Listed) (n len : ℕ) → Ok len ≡ measured_of J → len ≤ 16777215 → len ≤ n → Fits J n
unfolding measured_of
fits_there (all ts) n len e h k = let f = small (all ts) len e h ts refl in omega arith
fits_there (wrong j) n len e h k = clash (refusal_at NotWritable j) len e

ends_done : (J : Listed) (out out' : List ℕ) (len : ℕ) → Ok len ≡ measured_of J → len ≤ 16777215 → len ≤ length out
    → out' ≡ sets out 0 (written_of (tokens_in J)) → Ends J out (Ok len) out'
unfolding measured_of write_answer write_leaves tokens_in over
ends_done (all ts) out out' len e h k m =
    let f = small (all ts) len e h ts refl in
    let w = written_of ts in
    let a = le-leb (length w) (length out) (omega arith) in
    let b = le-leb (length w) 16777215 (omega arith) in
    (rw (a, b, f), rw (a, b) (m ∙ front out w (omega arith)))
ends_done (wrong j) out out' len e h k m = clash (refusal_at NotWritable j) len e

-- the promise itself
module _ (l x out : List ℕ) where
  promise : (out' : List ℕ) (r : Outcome) → Ends (listed l x) out r out' → Writes l x out out' r
  promise out' r e = record { answer = e.0; leaves = e.1 }

  pub writes_wrong : (w : Refused) → Err w ≡ measured_of (listed l x) → Writes l x out out (Err w)
  writes_wrong w e = promise out (Err w) (ends_wrong (listed l x) out w e)

  pub writes_long : (len : ℕ) → Ok len ≡ measured_of (listed l x) → 16777215 < len → Writes l x out out (Err (refusal_at NoRoom 0))
  writes_long len e h = promise out (Err (refusal_at NoRoom 0)) (ends_long (listed l x) out len e h)

  pub writes_full : (len : ℕ) → Ok len ≡ measured_of (listed l x) → len ≤ 16777215 → length out < len → Writes l x out out (Err (refusal_at NoRoom 0))
  writes_full len e h k = promise out (Err (refusal_at NoRoom 0)) (ends_full (listed l x) out len e h k)

  pub writes_done : (out' : List ℕ) (len : ℕ) → Ok len ≡ measured_of (listed l x) → len ≤ 16777215 → len ≤ length out
      → out' ≡ sets out 0 (written_of (tokens_in (listed l x))) → Writes l x out out' (Ok len)
  writes_done out' len e h k m = promise out' (Ok len) (ends_done (listed l x) out out' len e h k m)
