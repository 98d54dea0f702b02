-- The bytes of rows and of a table written over or spliced: where each row stands, and what stays as found. Assumes nothing.
use Prim.Native.Nat.{ℕ, zero, suc, ◌+◌, ◌-◌, ◌*◌, ◌≤◌, ◌<◌}
use native.Mathlib.Omega.{arith}
use native.Mathlib.Nat.{zero-add, add-zero, suc-add, add-suc}
use mathlib.Core.Path.{◌≡◌, refl, ap, ◌∙◌}
use mathlib.Core.Logic.{◌⊎◌, inl, inr}
use mathlib.Core.List.{List, ◌++◌, append_assoc}
use lib.IntN.{ℤ, nat_abs}
use lib.ListN.{length, get_or, take, drop, length-append, length-drop, get_or-append}
use lib.Seq.{slice, take_at, drop_at, length-take-le, get_or-append-add, get_or-take, get_or-drop}
use Rattle.table.specs.Words.{word_bytes}
use Rattle.machine.specs.Page.{Result, bytes_in, row_words, row_bytes, rows_from, rows_of, result_at}
use Rattle.machine.specs.Promise.{over, spliced}
use Rattle.machine.proofs.Verdicts.{bodies_in, bodies_most, Ran, Reprinted}

-- ---- rows

pub row_length : (r : Result) → length (row_bytes r) ≡ 16
unfolding row_bytes bytes_in row_words word_bytes
row_length r = refl

pub rows_length : (a : ℕ) (b : List (List ℕ)) (n k : ℕ) → length (rows_from a b n k) ≡ 16 * k
unfolding rows_from
rows_length a b n zero = refl
rows_length a b n (suc k) = length-append (row_bytes (result_at a b n)) _ ∙ omega (arith, row_length (result_at a b n), rows_length a b (suc n) k)

rows_of_lem : (a : ℕ) (b : List (List ℕ)) → length (rows_of a b) ≡ 16 * length b
unfolding rows_of
rows_of_lem a b = rows_length a b 0 (length b)

-- row n + k between those before and those after it
rows_split : (a : ℕ) (b : List (List ℕ)) (n k m : ℕ)
    → rows_from a b n (k + suc m) ≡ rows_from a b n k ++ (row_bytes (result_at a b (n + k)) ++ rows_from a b (suc (n + k)) m)
unfolding rows_from
rows_split a b n zero m = rw (zero-add, add-zero)
rows_split a b n (suc k) m = rw (suc-add k (suc m), add-suc n k, rows_split a b (suc n) k m, suc-add n k, append_assoc)

rows_at : (a : ℕ) (b : List (List ℕ)) (k c : ℕ) → length b ≡ suc c → k ≤ c
    → rows_of a b ≡ rows_from a b 0 k ++ (row_bytes (result_at a b k) ++ rows_from a b (suc k) (c - k))
unfolding rows_of
rows_at a b k c l h =
    let e : length b ≡ k + suc (c - k) = omega arith in
    ap (rows_from a b 0) e ∙ rw zero-add at (rows_split a b 0 k (c - k))

-- ---- a table

-- the 16 bytes r between p and q
slice_mid : (p r q : List ℕ) (n : ℕ) → length p ≡ n → length r ≡ 16 → slice n (n + 16) (p ++ (r ++ q)) ≡ r
slice_mid p r q n e f = rw (← append_assoc p r q, take_at (p ++ r) q (n + 16) (simp length-append (omega arith))) (drop_at p r n e)

-- putting r' in the place of r
pub splice_mid : (p r r' q : List ℕ) (n : ℕ) → length p ≡ n → length r ≡ 16 → length r' ≡ 16 → spliced n r' (p ++ (r ++ q)) ≡ p ++ (r' ++ q)
unfolding spliced
splice_mid p r r' q n e f g = rw (take_at p (r ++ q) n e, ← append_assoc p r q, drop_at (p ++ r) q (n + length r') (simp length-append (omega arith)))

over_length : (b t : List ℕ) → length b ≤ length t → length (over b t) ≡ length t
unfolding over
over_length b t h = simp (length-append, length-drop) (omega arith)

-- past the n bytes of p
past : (p q : List ℕ) (n i : ℕ) → length p ≡ n → n ≤ i → get_or (p ++ q) i 0 ≡ get_or q (i - n) 0
past p q n i e h =
    let k : i ≡ length p + (i - n) = omega arith in
    ap (λ (j : ℕ). get_or (p ++ q) j 0) k ∙ get_or-append-add p q (i - n) 0

-- past the first n bytes of t, counted from there
dropped : (t : List ℕ) (n i : ℕ) → n ≤ i → get_or (drop n t) (i - n) 0 ≡ get_or t i 0
dropped t n i h =
    let k : n + (i - n) ≡ i = omega arith in
    get_or-drop n t (i - n) 0 ∙ ap (λ (j : ℕ). get_or t j 0) k

over_rest : (b t : List ℕ) (i : ℕ) → length b ≤ i → get_or (over b t) i 0 ≡ get_or t i 0
unfolding over
over_rest b t i h = past b (drop (length b) t) (length b) i refl h ∙ dropped t (length b) i h

module _ (n : ℕ) (r t : List ℕ) (h : n + length r ≤ length t) where
  front : length (take n t) ≡ n
  front = length-take-le n t (omega arith)

  splice_length : length (spliced n r t) ≡ length t
  unfolding spliced
  splice_length = simp (length-append, length-drop) (omega (arith, front))

  splice_before : (i : ℕ) → i < n → get_or (spliced n r t) i 0 ≡ get_or t i 0
  unfolding spliced
  splice_before i l = get_or-append (take n t) _ 0 i (omega (arith, front)) ∙ get_or-take n t i 0 l

  splice_after : (i : ℕ) → n + length r ≤ i → get_or (spliced n r t) i 0 ≡ get_or t i 0
  unfolding spliced
  splice_after i l =
      let m : length r ≤ i - n = omega arith in
      let k : i - n - length r ≡ i - (n + length r) = omega arith in
      past (take n t) _ n i front (omega arith) ∙ past r (drop (n + length r) t) (length r) (i - n) refl m
      ∙ ap (λ (j : ℕ). get_or (drop (n + length r) t) j 0) k ∙ dropped t (n + length r) i l

  -- the part put in
  splice_slice : length r ≡ 16 → slice n (n + 16) (spliced n r t) ≡ r
  unfolding spliced
  splice_slice e = slice_mid (take n t) r (drop (n + length r) t) n front e

-- ---- rows in a table

-- a table that begins with the rows of the bodies b, by row k
pub over_rows : (a : ℕ) (b : List (List ℕ)) (t : List ℕ) (k c : ℕ) → length b ≡ suc c → k ≤ c
    → over (rows_of a b) t ≡ rows_from a b 0 k ++ (row_bytes (result_at a b k) ++ (rows_from a b (suc k) (c - k) ++ drop (16 * suc c) t))
unfolding over
over_rows a b t k c l h = rw (rows_of_lem a b, l, rows_at a b k c l h, append_assoc, append_assoc)

-- row k as a run leaves it
pub ran_row : {s : List ℕ} {a : ℤ} {scratch scratch' rows rows' : List ℕ} {c : ℕ} (k : ℕ) → k ≤ c → Ran s a scratch scratch' rows rows' c
    → slice (16 * k) (16 * k + 16) rows' ≡ row_bytes (result_at (nat_abs a) (bodies_in s) k)
ran_row {s} {a} {scratch} {scratch'} {rows} {rows'} {c} k h r =
    let n = nat_abs a in
    let b = bodies_in s in
    rw (r.rows_are, over_rows n b rows k c r.count h)
    (slice_mid (rows_from n b 0 k) _ (rows_from n b (suc k) (c - k) ++ drop (16 * suc c) rows) (16 * k) (rows_length n b 0 k) (row_length (result_at n b k)))

-- and as a reprint leaves it
pub reprinted_row : {s : List ℕ} {a : ℤ} {k : ℕ} {scratch scratch' rows rows' sections sections' : List ℕ} → Reprinted s a k scratch scratch' rows rows' sections sections'
    → slice (16 * k) (16 * k + 16) rows' ≡ row_bytes (result_at (nat_abs a) (bodies_in s) k)
reprinted_row {s} {a} {k} {scratch} {scratch'} {rows} r =
    let x = result_at (nat_abs a) (bodies_in s) k in
    rw r.rows_are (splice_slice (16 * k) (row_bytes x) rows (omega (arith, row_length x, bodies_most s, r.exists, r.long)) (row_length x))

-- every byte outside row k
pub reprinted_others : {s : List ℕ} {a : ℤ} {k : ℕ} {scratch scratch' rows rows' sections sections' : List ℕ} → Reprinted s a k scratch scratch' rows rows' sections sections'
    → (length rows' ≡ length rows) × ((i : ℕ) → (i < 16 * k) ⊎ (16 * k + 16 ≤ i) → get_or rows' i 0 ≡ get_or rows i 0)
reprinted_others {s} {a} {k} {scratch} {scratch'} {rows} {rows'} r = (rw r.rows_are (splice_length (16 * k) b rows fits), others)
  where
    b : List ℕ
    b = row_bytes (result_at (nat_abs a) (bodies_in s) k)

    sixteen : length b ≡ 16
    sixteen = row_length (result_at (nat_abs a) (bodies_in s) k)

    fits : 16 * k + length b ≤ length rows
    fits = omega (arith, sixteen, bodies_most s, r.exists, r.long)

    others : (i : ℕ) → (i < 16 * k) ⊎ (16 * k + 16 ≤ i) → get_or rows' i 0 ≡ get_or rows i 0
    others i (inl h) = rw r.rows_are (splice_before (16 * k) b rows fits i h)
    others i (inr h) = rw r.rows_are (splice_after (16 * k) b rows fits i (omega (arith, sixteen)))

-- every byte past the last row
pub ran_rest : {s : List ℕ} {a : ℤ} {scratch scratch' rows rows' : List ℕ} {c : ℕ} → Ran s a scratch scratch' rows rows' c
    → (length rows' ≡ length rows) × ((i : ℕ) → 16 * (c + 1) ≤ i → get_or rows' i 0 ≡ get_or rows i 0)
ran_rest {s} {a} {scratch} {scratch'} {rows} {rows'} {c} r =
    let b = rows_of (nat_abs a) (bodies_in s) in
    let l : length b ≡ 16 * suc c = rw (rows_of_lem (nat_abs a) (bodies_in s), r.count) in
    (rw r.rows_are (over_length b rows (omega (arith, l, bodies_most s, r.count, r.long))), λ i h. rw r.rows_are (over_rest b rows i (omega (arith, l))))
