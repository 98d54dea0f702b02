-- What `write` answers and leaves in the buffer, by the tokens that it is given. Assumes nothing.
use Rattle.std.specs.Prelude.{Ok, Err}
use Rattle.tokens.specs.Refusal.{refusal_at}
use Rattle.std.proofs.Common.{◌≡◌, ℕ, ◌≤◌, leb, List, ◌++◌, length, take, drop, refl, ◌∙◌, arith, le-leb, leb-true}
use lib.Seq.{take-append_seam, drop-append_seam}
use Rattle.tokens.specs.Refusal.{Outcome}
use Rattle.tokens.specs.declared.Refusal.{Refusal}
use Rattle.tokens.specs.declared.Refusal.TheVariants.{NoRoom}
use Rattle.tokens.specs.Format.{longest}
use Rattle.items.specs.Tokens.{Token}
use Rattle.lists.specs.Written.{written_of}
use Rattle.items.specs.Listing.{Listed, all, wrong, listed}
use Rattle.lists.specs.Promise.{over, room_for, write_answer, write_leaves, Writes}
use Rattle.numbers.proofs.Cond.{both, by_test}

-- ---- tokens that are written

done_is : (J : Listed) (m n : ℕ) → Ok n ≡ write_answer J m → (ts : List Token) × (J ≡ all ts) × (n ≡ length (written_of ts)) × (n ≤ m) × (n ≤ longest)
unfolding write_answer
done_is (all ts) m n e =
    let k = length (written_of ts) in
    by_test (room_for (written_of ts) m)
    (λ f.
    let g : Ok n ≡ Ok (length (written_of ts)) = rw f at e in
    let h : n ≡ length (written_of ts) = cc in
    let b = both (leb k m) (leb k longest) f in
    (ts, refl, h, rw h (leb-true k m b.0), rw h (leb-true k longest b.1)))
    (λ f. let g : Ok n ≡ Err (refusal_at NoRoom 0) = rw f at e in absurd (let z : ◌≡◌ {A = ℕ} 0 1 = cc in omega arith))
done_is (wrong i) m n e = absurd (let z : ◌≡◌ {A = ℕ} 0 1 = cc in omega arith)

pub done_tokens : {l x out out' : List ℕ} {n : ℕ} → Writes l x out out' (Ok n)
    → (ts : List Token) × (listed l x ≡ all ts) × (n ≡ length (written_of ts)) × (n ≤ length out) × (n ≤ longest)
done_tokens {l} {x} {out} {out'} {n} w = done_is (listed l x) (length out) n w.answer

-- where there is room, the written form and then the rest as found
pub written_full : {l x out out' : List ℕ} {r : Outcome} {ts : List Token} → listed l x ≡ all ts → length (written_of ts) ≤ length out → length (written_of ts) ≤ longest → Writes l x out out' r
    → (r ≡ Ok (length (written_of ts))) × (take (length (written_of ts)) out' ≡ written_of ts)
    × (drop (length (written_of ts)) out' ≡ drop (length (written_of ts)) out)
unfolding write_answer write_leaves over
written_full {l} {x} {out} {out'} {r} {ts} e a b w =
    let b₁ = written_of ts in
    let u = le-leb (length b₁) (length out) a in
    let v = le-leb (length b₁) longest b in
    let f : r ≡ Ok (length b₁) = rw (e, u, v) at w.answer in
    let g : out' ≡ b₁ ++ drop (length b₁) out = rw (e, u, v) at w.leaves in
    (f, rw g (take-append_seam b₁ (drop (length b₁) out)), rw g (drop-append_seam b₁ (drop (length b₁) out)))

-- ---- refused

kept_is : (J : Listed) (out : List ℕ) (w : Refusal) (p : ℕ) → Err (refusal_at w p) ≡ write_answer J (length out) → write_leaves J out ≡ out
unfolding write_answer write_leaves
kept_is (all ts) out w p e =
    by_test (room_for (written_of ts) (length out))
    (λ f. let g : Err (refusal_at w p) ≡ Ok (length (written_of ts)) = rw f at e in absurd (let z : ◌≡◌ {A = ℕ} 0 1 = cc in omega arith))
    (λ f. rw f)
kept_is (wrong i) out w p e = refl

pub refused_kept : {l x out out' : List ℕ} {w : Refusal} {p : ℕ} → Writes l x out out' (Err (refusal_at w p)) → out' ≡ out
refused_kept {l} {x} {out} {out'} {w} {p} h = h.leaves ∙ kept_is (listed l x) out w p h.answer
