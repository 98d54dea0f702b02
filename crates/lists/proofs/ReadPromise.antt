-- What `read_back` answers and leaves in its tables, by the tokens that it reads. Assumes nothing.
use Rattle.std.specs.Prelude.{Ok, Err}
use Rattle.tokens.specs.Refusal.{refusal_at}
use Rattle.std.proofs.Common.{◌≡◌, ℕ, ◌*◌, ◌<◌, true, List, length, take, drop, refl, ap, ◌∙◌, arith, take_at}
use Rattle.tokens.specs.Refusal.{Outcome}
use Rattle.tokens.specs.declared.Refusal.{Refusal}
use Rattle.tokens.specs.declared.Refusal.TheVariants.{TableTooShort}
use Rattle.items.specs.Tokens.{Token, all_writable}
use Rattle.items.specs.Listing.{all, listed}
use Rattle.lists.specs.Reading.{Got, got, refused, read_list}
use Rattle.lists.specs.Promise.{over, texts_of, list_of, holds, read_answer, list_leaves, text_leaves, ReadsBack}
use Rattle.numbers.proofs.Cond.{by_test}
use Rattle.lists.proofs.SameTables.{list_length, same_list}

-- ---- tokens that are read

-- tables that are long enough
pub read_full : {s list list' text text' : List ℕ} {r : Outcome} {ts : List Token} → read_list s ≡ got ts → holds ts (length list) (length text) ≡ true
    → ReadsBack s list list' text text' r → r ≡ Ok (length ts)
unfolding read_answer
read_full e h b = b.answer ∙ rw (e, h)

-- tables that were filled hold the same tokens
filled : (ts : List Token) (list text : List ℕ) (m : ℕ) → all_writable ts ≡ true → length (texts_of ts) < 2147483648
    → Ok m ≡ read_answer (got ts) (length list) (length text)
    → listed (take (16 * m) (list_leaves (got ts) list (length text))) (text_leaves (got ts) (length list) text) ≡ all ts
unfolding read_answer list_leaves text_leaves over
filled ts list text m w h e =
    by_test (holds ts (length list) (length text))
    (λ f.
    let g : Ok m ≡ Ok (length ts) = rw f at e in
    let k : length ts ≡ m = cc in
    let n : length (list_of 0 ts) ≡ 16 * m = list_length 0 ts ∙ ap (λ (i : ℕ). 16 * i) k in
    rw (f, take_at (list_of 0 ts) (drop (length (list_of 0 ts)) list) (16 * m) n) (same_list ts (drop (length (texts_of ts)) text) w h))
    (λ f. let g : Ok m ≡ Err (refusal_at TableTooShort 0) = rw f at e in absurd (let z : ◌≡◌ {A = ℕ} 0 1 = cc in omega arith))

pub read_same : {s list list' text text' : List ℕ} {m : ℕ} {ts : List Token} → read_list s ≡ got ts → all_writable ts ≡ true
    → length (texts_of ts) < 2147483648 → ReadsBack s list list' text text' (Ok m)
    → listed (take (16 * m) list') text' ≡ all ts
read_same {s} {list} {list'} {text} {text'} {m} {ts} e w h b =
    rw (b.list_left, b.text_left, e) (filled ts list text m w h (b.answer ∙ ap (λ (G : Got). read_answer G (length list) (length text)) e))

-- ---- refused

kept_is : (G : Got) (list text : List ℕ) (w : Refusal) (p : ℕ) → Err (refusal_at w p) ≡ read_answer G (length list) (length text)
    → (list_leaves G list (length text) ≡ list) × (text_leaves G (length list) text ≡ text)
unfolding read_answer list_leaves text_leaves
kept_is (got ts) list text w p e =
    by_test (holds ts (length list) (length text))
    (λ f. let g : Err (refusal_at w p) ≡ Ok (length ts) = rw f at e in absurd (let z : ◌≡◌ {A = ℕ} 0 1 = cc in omega arith))
    (λ f. (rw f, rw f))
kept_is (refused v q) list text w p e = (refl, refl)

pub unread_kept : {s list list' text text' : List ℕ} {w : Refusal} {p : ℕ} → ReadsBack s list list' text text' (Err (refusal_at w p))
    → (list' ≡ list) × (text' ≡ text)
unread_kept {s} {list} {list'} {text} {text'} {w} {p} b =
    let k = kept_is (read_list s) list text w p b.answer in
    (b.list_left ∙ k.0, b.text_left ∙ k.1)
