-- The theorems of the two calls on token lists: `write` and `read_back`, over their promises. Assumes nothing.
use Rattle.std.specs.Prelude.{Ok, Err}
use Rattle.tokens.specs.Refusal.{refusal_at}
use Rattle.std.proofs.Common.{◌≡◌, ℕ, ◌*◌, ◌≤◌, true, List, length, take, drop, sym, refl, ◌∙◌}
use Rattle.numbers.specs.Each.{Each, ◌&◌}
use Rattle.tokens.specs.Refusal.{Outcome}
use Rattle.tokens.specs.declared.Refusal.{Refusal}
use Rattle.tokens.specs.Format.{longest}
use Rattle.items.specs.Tokens.{Token, all_writable}
use Rattle.lists.specs.Written.{bytes_of, complement_of, bytes_in, is_short, sequence_bytes, whole_bytes, rational_bytes, operator_bytes, token_bytes, written_of}
use Rattle.items.specs.Listing.{all, listed}
use Rattle.lists.specs.Reading.{got, read_list}
use Rattle.lists.specs.Promise.{holds, Writes, ReadsBack}
use Rattle.lists.specs.Cases.{Case, cases}
use Rattle.lists.proofs.WritePromise.{done_tokens, written_full, refused_kept}
use Rattle.lists.proofs.ReadPromise.{unread_kept}
use Rattle.lists.proofs.RoundTrip.{tokens_back, tables_back, answer_back}

-- THEOREM (demand 2). The written forms that 01 gives, by computation.
pub cases_hold : Each (λ (c : Case). token_bytes c.token ≡ c.bytes) cases
unfolding cases token_bytes operator_bytes rational_bytes whole_bytes sequence_bytes is_short bytes_in complement_of bytes_of
cases_hold =
    refl & refl & refl & refl & refl & refl & refl & refl & refl & refl
    & refl & refl & refl & tt

-- THEOREM (demand 2). What `write` puts, `read_back` takes: the tables that it leaves hold the tokens that were written.
pub read_write : {l x out out' list list' text text' : List ℕ} {n m : ℕ} → Writes l x out out' (Ok n) → ReadsBack (take n out') list list' text text' (Ok m)
    → listed (take (16 * m) list') text' ≡ listed l x
read_write w b = tables_back w b

-- THEOREM (demand 2). The bytes put are those of the list's own tokens, all of them writable.
pub read_write_tokens : {l x out out' : List ℕ} {n : ℕ} → Writes l x out out' (Ok n)
    → (ts : List Token) × (listed l x ≡ all ts) × (all_writable ts ≡ true) × (read_list (take n out') ≡ got ts)
read_write_tokens w = tokens_back w

-- THEOREM (demand 2). Into tables that are long enough they are read back, and the answer is the number of tokens.
pub read_back_full : {l x out out' list list' text text' : List ℕ} {n : ℕ} {ts : List Token} {r : Outcome} → Writes l x out out' (Ok n) → listed l x ≡ all ts
    → holds ts (length list) (length text) ≡ true
    → ReadsBack (take n out') list list' text text' r → r ≡ Ok (length ts)
read_back_full w e h b = answer_back w e h b

-- THEOREM (demand 2). A list of writable tokens for which there is room is written: its written form, and then the rest as found.
pub write_full : {l x out out' : List ℕ} {ts : List Token} {r : Outcome} → listed l x ≡ all ts → length (written_of ts) ≤ length out → length (written_of ts) ≤ longest → Writes l x out out' r
    → (r ≡ Ok (length (written_of ts))) × (take (length (written_of ts)) out' ≡ written_of ts)
    × (drop (length (written_of ts)) out' ≡ drop (length (written_of ts)) out)
write_full e a b w = written_full e a b w

-- THEOREM (demand 2). And nothing else is.
pub write_only : {l x out out' : List ℕ} {n : ℕ} → Writes l x out out' (Ok n)
    → (ts : List Token) × (listed l x ≡ all ts) × (n ≡ length (written_of ts)) × (n ≤ length out) × (n ≤ longest)
write_only w = done_tokens w

-- THEOREM (demand 2). The promise of `write` leaves one answer and one buffer.
pub write_one : {l x out o₁ o₂ : List ℕ} {r₁ r₂ : Outcome} → Writes l x out o₁ r₁ → Writes l x out o₂ r₂ → (r₁ ≡ r₂) × (o₁ ≡ o₂)
write_one v w = (v.answer ∙ sym w.answer, v.leaves ∙ sym w.leaves)

-- THEOREM (demand 2). The promise of `read_back` leaves one answer and one content of each table.
pub read_back_one : {s list l₁ l₂ text t₁ t₂ : List ℕ} {r₁ r₂ : Outcome} → ReadsBack s list l₁ text t₁ r₁ → ReadsBack s list l₂ text t₂ r₂ → (r₁ ≡ r₂) × (l₁ ≡ l₂) × (t₁ ≡ t₂)
read_back_one a b = (a.answer ∙ sym b.answer, a.list_left ∙ sym b.list_left, a.text_left ∙ sym b.text_left)

-- THEOREM (demand 2). A refused `write` leaves the buffer as found.
pub write_kept : {l x out out' : List ℕ} {w : Refusal} {p : ℕ} → Writes l x out out' (Err (refusal_at w p)) → out' ≡ out
write_kept w = refused_kept w

-- THEOREM (demand 2). A refused `read_back` leaves both tables as found.
pub read_back_kept : {s list list' text text' : List ℕ} {w : Refusal} {p : ℕ} → ReadsBack s list list' text text' (Err (refusal_at w p))
    → (list' ≡ list) × (text' ≡ text)
read_back_kept b = unread_kept b
