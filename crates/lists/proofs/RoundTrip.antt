-- Over both promises: what `write` accepts is read back as the same tokens. Assumes nothing.
use Rattle.std.specs.Prelude.{Ok}
use Rattle.std.proofs.Common.{◌≡◌, ℕ, ◌*◌, ◌<◌, ◌≤◌, true, List, [], ◌∷◌, length, take, sym, ap, ◌∙◌, arith, length-append}
use Rattle.tokens.specs.Refusal.{Outcome}
use Rattle.tokens.specs.Format.{longest, string_type, identifier_type}
use Rattle.items.specs.Tokens.{Token, number, identifier, string, operator, all_writable}
use Rattle.lists.specs.Written.{token_bytes, tokens_bytes, written_of}
use Rattle.items.specs.Listing.{all, listed}
use Rattle.lists.specs.Reading.{got, read_list}
use Rattle.lists.specs.Promise.{text_of, texts_of, holds, Writes, ReadsBack}
use Rattle.lists.proofs.SequenceBack.{sequence_length}
use Rattle.lists.proofs.ReadWrite.{written_length, read_list_lem}
use Rattle.lists.proofs.ListedWritable.{listed_writable}
use Rattle.lists.proofs.WritePromise.{done_tokens, written_full}
use Rattle.lists.proofs.ReadPromise.{read_full, read_same}

-- a list's texts are not longer than its written form
text_short : (t : Token) → length (text_of t) ≤ length (token_bytes t)
unfolding text_of token_bytes
text_short (number a) = omega arith
text_short (identifier d) = omega (arith, sequence_length identifier_type d)
text_short (string d) = omega (arith, sequence_length string_type d)
text_short (operator n) = omega arith

texts_short : (ts : List Token) → length (texts_of ts) ≤ length (tokens_bytes ts)
unfolding texts_of tokens_bytes
texts_short [] = omega arith
texts_short (t ∷ ts) = omega (arith, length-append (text_of t) (texts_of ts), length-append (token_bytes t) (tokens_bytes ts), text_short t, texts_short ts)

module _ {l x out out' : List ℕ} {n : ℕ} (w : Writes l x out out' (Ok n)) where
  -- of the tokens that were written
  tokens_are : (ts : List Token) → listed l x ≡ all ts → n ≡ length (written_of ts) → n ≤ length out → n ≤ longest
      → (all_writable ts ≡ true) × (read_list (take n out') ≡ got ts) × (length (texts_of ts) < 2147483648)
  tokens_are ts e f room short =
      let ok = listed_writable l x ts e in
      let g = written_full e (omega arith) (omega arith) w in
      (ok, ap (λ (k : ℕ). read_list (take k out')) f ∙ rw g.1 (read_list_lem ts ok (omega arith)), omega (arith, texts_short ts, written_length ts))

  pub tokens_back : (ts : List Token) × (listed l x ≡ all ts) × (all_writable ts ≡ true) × (read_list (take n out') ≡ got ts)
  tokens_back = let q = done_tokens w in let a = tokens_are q.0 q.1 q.2 q.3 q.4 in (q.0, q.1, a.0, a.1)

  pub tables_back : {list list' text text' : List ℕ} {m : ℕ} → ReadsBack (take n out') list list' text text' (Ok m)
      → listed (take (16 * m) list') text' ≡ listed l x
  tables_back b = let q = done_tokens w in let a = tokens_are q.0 q.1 q.2 q.3 q.4 in read_same a.1 a.0 a.2 b ∙ sym q.1

  pub answer_back : {ts : List Token} {list list' text text' : List ℕ} {r : Outcome} → listed l x ≡ all ts → holds ts (length list) (length text) ≡ true
      → ReadsBack (take n out') list list' text text' r → r ≡ Ok (length ts)
  answer_back {ts} e h b =
      let q = tokens_back in
      let f : all q.0 ≡ all ts = sym q.1 ∙ e in
      let g : q.0 ≡ ts = cc in
      read_full (q.3 ∙ ap got g) h b
