-- A written list is read back as itself. Assumes nothing.
use Rattle.std.proofs.Common.{◌≡◌, ℕ, zero, suc, ◌+◌, ◌-◌, ◌≤◌, true, false, cond, ltb, List, [], ◌∷◌, ◌++◌, length, get_or, refl, ap, ◌∙◌, append_assoc, append-nil, le_refl, arith, length-append, le-ltb, lt-ltb, le-leb}
use Rattle.tokens.specs.Format.{header}
use Rattle.tokens.specs.Joined.{continued}
use Rattle.tokens.specs.Token.{token_at}
use Rattle.numbers.proofs.Cond.{both}
use Rattle.items.specs.Tokens.{Token, writable, all_writable}
use Rattle.lists.specs.Written.{token_bytes, tokens_bytes, written_of}
use Rattle.lists.specs.Reading.{got, on_read, read_from, read_list}
use Rattle.tokens.specs.Format.{starts}
use Rattle.lists.proofs.TokenBack.{step_back, head_plain, some_byte}

-- one turn, with room for k tokens where that is enough for what is left
pub read_turn : (k : ℕ) (s : List ℕ) (at : ℕ) (ts : List Token) → length s ≤ at + k →
    read_from k s at ts ≡ cond (ltb at (length s)) (on_read s at ts (token_at s at) (read_from (k - 1) s)) (got ts)
unfolding read_from
read_turn zero s at ts h = rw (le-ltb at (length s) (omega arith))
read_turn (suc k) s at ts h = let e : suc k - 1 ≡ k = omega arith in rw e

heads : (ts : List Token) → all_writable ts ≡ true → continued (get_or (tokens_bytes ts) 0 0) ≡ false
unfolding all_writable tokens_bytes
heads [] w = refl
heads (t ∷ ts) w = head_plain t (tokens_bytes ts) (both (writable t) (all_writable ts) w).0

-- the tokens after any bytes p
read_tokens : (ts : List Token) (k : ℕ) (p : List ℕ) (us : List Token) → all_writable ts ≡ true → length (tokens_bytes ts) ≤ 16777215 → length (tokens_bytes ts) ≤ k
    → read_from k (p ++ tokens_bytes ts) (length p) us ≡ got (us ++ ts)
unfolding tokens_bytes all_writable
read_tokens [] k p us w fits room =
    read_turn k (p ++ []) (length p) us (simp (append-nil) (omega arith)) ∙
    rw (append-nil p, append-nil us, le-ltb (length p) (length p) (le_refl (length p)))
read_tokens (t ∷ ts) k p us w fits room =
    let b = token_bytes t in
    let r = tokens_bytes ts in
    let s : List ℕ = p ++ (b ++ r) in
    let ws = both (writable t) (all_writable ts) w in
    let n = length-append b r in
    let m : length s ≡ length p + (length b + length r) = simp length-append in
    let o = some_byte t in
    let g : p ++ (b ++ r) ≡ (p ++ b) ++ r = simp append_assoc in
    let l : length p + length b ≡ length (p ++ b) = simp length-append in
    let i = read_tokens ts (k - 1) (p ++ b) (us ++ (t ∷ [])) ws.1 (omega arith) (omega arith) in
    read_turn k s (length p) us (omega arith) ∙
    rw (lt-ltb (length p) (length s) (omega arith), step_back p r t ws.0 (omega arith) (heads ts ws.1) us (read_from (k - 1) s), g, l)
    (i ∙ ap got (append_assoc us (t ∷ []) ts))

pub header_length : length header ≡ 21
unfolding header
header_length = refl

pub header_starts : (s : List ℕ) → starts header (header ++ s) ≡ true
unfolding header starts
header_starts s = refl

pub written_length : (ts : List Token) → length (written_of ts) ≡ 21 + length (tokens_bytes ts)
unfolding written_of
written_length ts = length-append header (tokens_bytes ts) ∙ rw header_length

-- a list of writable tokens, written and read, is itself
pub read_list_lem : (ts : List Token) → all_writable ts ≡ true → length (written_of ts) ≤ 16777215 → read_list (written_of ts) ≡ got ts
unfolding written_of read_list
read_list_lem ts w fits =
    let n = length-append header (tokens_bytes ts) in
    let i = read_tokens ts (length (header ++ tokens_bytes ts)) header [] w (omega arith) (omega arith) in
    rw (le-leb (length (header ++ tokens_bytes ts)) 16777215 fits, header_starts (tokens_bytes ts), ← header_length) i
