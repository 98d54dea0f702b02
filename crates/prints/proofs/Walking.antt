-- The pages of a master, one after another. In order: the rows, one more at the end; the loop over the pages. Assumes nothing.
use Prim.Native.Nat.{ℕ, zero, suc, ◌+◌, ◌*◌, ◌<◌, ◌≤◌}
use native.Mathlib.Nat.{zero-add, add-zero}
use native.Mathlib.Omega.{arith}
use mathlib.Core.Path.{◌≡◌, refl, sym, ap, ◌∙◌}
use mathlib.Core.List.{List, ◌++◌, append_assoc, append-nil}
use lib.ListN.{length, get_or, length-append}
use lib.Seq.{slice, sets}
use Rattle.table.specs.Words.{word_bytes}
use Rattle.table.proofs.Stores.{sets_append}
use Rattle.machine.specs.Limits.{most_pages}
use Rattle.machine.specs.Page.{Result, preamble_of, page_result, result_at, bytes_in, row_words, row_bytes, rows_from}
use Rattle.machine.specs.Readable.{Whole}
use Rattle.skeleton.specs.Spans.{Placed}
use Rattle.prints.specs.Ran.{Ready, Rowed, Holds}

-- ---- rows, one more at the end

pub row_long : (r : Result) → length (row_bytes r) ≡ 16
unfolding row_bytes row_words bytes_in word_bytes
row_long r = refl

pub rows_long : (a : ℕ) (bodies : List (List ℕ)) (n k : ℕ) → length (rows_from a bodies n k) ≡ 16 * k
unfolding rows_from
rows_long a bodies n zero = refl
rows_long a bodies n (suc k) = length-append (row_bytes (result_at a bodies n)) (rows_from a bodies (suc n) k) ∙ omega (arith, row_long (result_at a bodies n), rows_long a bodies (suc n) k)

rows_more : (a : ℕ) (bodies : List (List ℕ)) (n k : ℕ) → rows_from a bodies n (suc k) ≡ rows_from a bodies n k ++ row_bytes (result_at a bodies (n + k))
unfolding rows_from
rows_more a bodies n zero = rw (add-zero n) (append-nil (row_bytes (result_at a bodies n)))
rows_more a bodies n (suc k) =
    let e : n + suc k ≡ suc n + k = omega arith in
    rw e (ap (λ (l : List ℕ). row_bytes (result_at a bodies n) ++ l) (rows_more a bodies (suc n) k) ∙ sym (append_assoc (row_bytes (result_at a bodies n)) (rows_from a bodies (suc n) k) (row_bytes (result_at a bodies (suc n + k)))))

pub row_more : (a n : ℕ) (bodies : List (List ℕ)) (t t₁ t₂ : List ℕ) → t₁ ≡ sets t 0 (rows_from a bodies 0 n) → t₂ ≡ sets t₁ (16 * n) (row_bytes (result_at a bodies n)) → t₂ ≡ sets t 0 (rows_from a bodies 0 (n + 1))
row_more a n bodies t t₁ t₂ e f =
    let l : 16 * n ≡ 0 + length (rows_from a bodies 0 n) = omega (arith, rows_long a bodies 0 n) in
    f ∙ (rw (e, l) (sets_append t 0 (rows_from a bodies 0 n) (row_bytes (result_at a bodies n)))) ∙
    ap (sets t 0) joined
  where
    joined : rows_from a bodies 0 n ++ row_bytes (result_at a bodies n) ≡ rows_from a bodies 0 (n + 1)
    joined = let z : n + 1 ≡ suc n = omega arith in rw z (sym (rw (zero-add n) at (rows_more a bodies 0 n)))

-- ---- the loop

-- before page n: the rows before its own are written
pub record Walked (s t : List ℕ) (last used a : ℕ) (w₀ rows₀ w rows : List ℕ) (n : ℕ) : Type 0 where
  pub some : 1 ≤ n
  pub most : n ≤ last + 1
  pub ready : Ready (slice (get_or t 0 0) (get_or t 1 0) s) a used w
  pub w_long : length w ≡ length w₀
  pub rows_long : length rows ≡ length rows₀
  pub rows_are : (bodies : List (List ℕ)) (b : List ℕ) → Placed s t bodies → length bodies ≡ last + 1 → rows₀ ≡ sets b 0 (rows_from a bodies 0 1) → rows ≡ sets b 0 (rows_from a bodies 0 n)

pub walk_starts : (s t : List ℕ) (last used a : ℕ) (w rows : List ℕ) → Ready (slice (get_or t 0 0) (get_or t 1 0) s) a used w → Walked s t last used a w rows w rows 1
walk_starts s t last used a w rows r = record { some = omega arith; most = omega arith; ready = r; w_long = refl; rows_long = refl; rows_are = λ bodies b p m e. e }

-- what a page asks, of the places
pub page_asks : {s t : List ℕ} (last page : ℕ) → Holds s t last → page ≤ last → (get_or t 0 0 ≤ get_or t 1 0) × (get_or t 1 0 ≤ length s) × (get_or t (2 * page) 0 ≤ get_or t (2 * page + 1) 0) × (get_or t (2 * page + 1) 0 ≤ length s) × (page ≤ most_pages)
page_asks last page h le =
    let l = h.placed in
    let x = l.each 0 l.some in
    let y = l.each page (omega (arith, h.there)) in
    (x.ordered, x.inside, y.ordered, y.inside, omega (arith, l.few, h.there))

-- the bytes of a page by its place have been judged
pub whole_at : {s t : List ℕ} (last n : ℕ) → Holds s t last → n ≤ last → Whole (slice (get_or t (2 * n) 0) (get_or t (2 * n + 1) 0) s)
whole_at last n h le = rw (h.placed.each n (omega (arith, h.there))).is (h.whole n)

-- the bytes of a page by its place
pub result_at_lem : (s t : List ℕ) (a n : ℕ) (bodies : List (List ℕ)) → 1 ≤ n → n < length bodies → Placed s t bodies
    → result_at a bodies n ≡ page_result a (slice (get_or t 0 0) (get_or t 1 0) s) (slice (get_or t (2 * n) 0) (get_or t (2 * n + 1) 0) s)
unfolding result_at preamble_of
result_at_lem s t a zero bodies h l p = absurd (omega arith)
result_at_lem s t a (suc n) bodies h l p = rw ((p.each 0 (omega arith)).is, (p.each (suc n) l).is)

module _ (s t : List ℕ) (last used a : ℕ) (w₀ rows₀ w rows : List ℕ) (n : ℕ) (l : Holds s t last) (h : n ≤ last) (k : Walked s t last used a w₀ rows₀ w rows n) where
  abbrev at : ℕ → ℕ
  at i = get_or t i 0

  -- what a page and its row ask
  pub row_asks : length s ≤ 16777215 → a ≤ 1000000 → 8208 ≤ length rows₀
      → Ready (slice (at 0) (at 1) s) a used w × (length s ≤ 16777215) × (at 0 ≤ at 1) × (at 1 ≤ length s) × (at (2 * n) ≤ at (2 * n + 1)) × (at (2 * n + 1) ≤ length s) × (a ≤ 1000000) × Whole (slice (at 0) (at 1) s) × Whole (slice (at (2 * n)) (at (2 * n + 1)) s) × (16 * n + 16 ≤ length rows)
  row_asks f g r = let p = page_asks last n l h in (k.ready, f, p.0, p.1, p.2, p.3, g, whole_at last 0 l (omega arith), whole_at last n l h, omega (arith, p.4, k.rows_long))

  pub walk_goes : (w' rows' : List ℕ) → Rowed (slice (at 0) (at 1) s) (slice (at (2 * n)) (at (2 * n + 1)) s) a used n w' rows rows' → length w' ≡ length w → length rows' ≡ length rows → Walked s t last used a w₀ rows₀ w' rows' (n + 1)
  walk_goes w' rows' r e f = record {
    some = omega arith;
    most = omega arith;
    ready = r.ready;
    w_long = e ∙ k.w_long;
    rows_long = f ∙ k.rows_long;
    rows_are = λ bodies b p m g. row_more a n bodies b rows rows' (k.rows_are bodies b p m g) (r.row ∙ ap (λ x. sets rows (16 * n) (row_bytes x)) (sym (result_at_lem s t a n bodies k.some (omega (arith, m)) p)));
  }

pub walk_ends : (s t : List ℕ) (last used a : ℕ) (w₀ rows₀ w rows : List ℕ) (n : ℕ) → last < n → Walked s t last used a w₀ rows₀ w rows n
    → (bodies : List (List ℕ)) (b : List ℕ) → Placed s t bodies → length bodies ≡ last + 1 → rows₀ ≡ sets b 0 (rows_from a bodies 0 1) → rows ≡ sets b 0 (rows_from a bodies 0 (last + 1))
walk_ends s t last used a w₀ rows₀ w rows n h k = let z : n ≡ last + 1 = omega (arith, k.most) in rw z at k.rows_are
