-- Demand 3 on bytes: the same preamble and the same body give the same row and the same sections, and a reprint puts right the rows of a
-- master whose one page changed. Assumes nothing.
use Prim.Native.Nat.{ℕ, zero, suc, ◌+◌, ◌-◌, ◌*◌, ◌≤◌, ◌<◌}
use native.Mathlib.Omega.{arith}
use mathlib.Core.Path.{◌≡◌, refl, sym, ap, ◌∙◌}
use mathlib.Core.Logic.{◌≢◌}
use mathlib.Core.List.{List, [], ◌++◌}
use lib.IntN.{ℤ, nat_abs}
use lib.ListN.{length, get_or, take, drop, length-append, length-replicate}
use lib.Seq.{slice, take-append-le}
use Rattle.machine.specs.Limits.{sections_size}
use Rattle.machine.specs.Page.{Result, preamble_of, result_at, row_bytes, rows_from, section_bytes}
use Rattle.machine.specs.Promise.{over, spliced}
use Rattle.machine.proofs.Verdicts.{bodies_in, Ran, Reprinted}
use Rattle.machine.proofs.RowsKept.{row_length, rows_length, splice_mid, over_rows, ran_row}

-- ---- results

-- of two pages, or of two preambles
module _ (a : ℕ) (b₁ b₂ : List (List ℕ)) (e : get_or b₁ 0 [] ≡ get_or b₂ 0 []) where
  pub preamble_same : result_at a b₁ 0 ≡ result_at a b₂ 0
  unfolding result_at preamble_of
  preamble_same = rw e

  pub page_same : (n₁ n₂ : ℕ) → 1 ≤ n₁ → 1 ≤ n₂ → get_or b₁ n₁ [] ≡ get_or b₂ n₂ [] → result_at a b₁ n₁ ≡ result_at a b₂ n₂
  unfolding result_at preamble_of
  page_same zero n₂ h i f = absurd (omega arith)
  page_same (suc n₁) zero h i f = absurd (omega arith)
  page_same (suc n₁) (suc n₂) h i f = rw (e, f)

  both_same : (n : ℕ) → get_or b₁ n [] ≡ get_or b₂ n [] → result_at a b₁ n ≡ result_at a b₂ n
  both_same zero f = preamble_same
  both_same (suc n) f = page_same (suc n) (suc n) (omega arith) (omega arith) f

  -- rows of the same results
  rows_same : (n k : ℕ) → ((j : ℕ) → n ≤ j → j < n + k → get_or b₁ j [] ≡ get_or b₂ j []) → rows_from a b₁ n k ≡ rows_from a b₂ n k
  unfolding rows_from
  rows_same n zero f = refl
  rows_same n (suc k) f = rw (both_same n (f n (omega arith) (omega arith)), rows_same (suc n) k (λ j h i. f j (omega arith) (omega arith)))

-- ---- sections

-- all bytes that may be written are
sections_length : (r : Result) → sections_size ≤ length (section_bytes r)
unfolding section_bytes
sections_length r = simp (length-append, length-replicate) (omega arith)

-- the first of them
written : (r : Result) (t : List ℕ) (n : ℕ) → n ≤ sections_size → take n (over (section_bytes r) t) ≡ take n (section_bytes r)
unfolding over
written r t n h = take-append-le n (section_bytes r) (drop (length (section_bytes r)) t) (omega (arith, sections_length r))

pub same_sections : {s₁ s₂ : List ℕ} {a : ℤ} {n₁ n₂ : ℕ} {scr₁ scr₁' rows₁ rows₁' sec₁ sec₁' scr₂ scr₂' rows₂ rows₂' sec₂ sec₂' : List ℕ}
    → Reprinted s₁ a n₁ scr₁ scr₁' rows₁ rows₁' sec₁ sec₁' → Reprinted s₂ a n₂ scr₂ scr₂' rows₂ rows₂' sec₂ sec₂'
    → result_at (nat_abs a) (bodies_in s₁) n₁ ≡ result_at (nat_abs a) (bodies_in s₂) n₂ → (n : ℕ) → n ≤ sections_size → take n sec₁' ≡ take n sec₂'
same_sections {s₁} {s₂} {a} {n₁} {n₂} {sec₁ = sec₁} {sec₂ = sec₂} p q e n h =
    ap (take n) p.sections_are ∙ written (result_at (nat_abs a) (bodies_in s₁) n₁) sec₁ n h ∙ ap (λ (r : Result). take n (section_bytes r)) e
    ∙ sym (ap (take n) q.sections_are ∙ written (result_at (nat_abs a) (bodies_in s₂) n₂) sec₂ n h)

pub same_row : {s₁ s₂ : List ℕ} {a : ℤ} {n₁ n₂ c₁ c₂ : ℕ} {scr₁ scr₁' rows₁ rows₁' scr₂ scr₂' rows₂ rows₂' : List ℕ}
    → Ran s₁ a scr₁ scr₁' rows₁ rows₁' c₁ → Ran s₂ a scr₂ scr₂' rows₂ rows₂' c₂ → n₁ ≤ c₁ → n₂ ≤ c₂
    → result_at (nat_abs a) (bodies_in s₁) n₁ ≡ result_at (nat_abs a) (bodies_in s₂) n₂ → slice (16 * n₁) (16 * n₁ + 16) rows₁' ≡ slice (16 * n₂) (16 * n₂ + 16) rows₂'
same_row {s₁} {s₂} {a} {n₁} {n₂} p q h i e = ran_row n₁ h p ∙ ap row_bytes e ∙ sym (ran_row n₂ i q)

-- ---- one page changed

pub one_changed : {s₁ s₂ : List ℕ} {a : ℤ} {c k : ℕ} {scr₁ scr₁' scr₂ scr₂' scr₃ scr₃' rows rows₁ rows₂ rows₃ sec sec' : List ℕ}
    → Ran s₁ a scr₁ scr₁' rows rows₁ c → Ran s₂ a scr₂ scr₂' rows rows₂ c → Reprinted s₂ a k scr₃ scr₃' rows₁ rows₃ sec sec'
    → get_or (bodies_in s₁) 0 [] ≡ get_or (bodies_in s₂) 0 [] → ((j : ℕ) → j ≢ k → get_or (bodies_in s₁) j [] ≡ get_or (bodies_in s₂) j []) → rows₃ ≡ rows₂
one_changed {s₁} {s₂} {a} {c} {k} {rows = rows} {rows₁} {rows₂} {rows₃} x y z e same =
    let n = nat_abs a in
    let b₁ = bodies_in s₁ in
    let b₂ = bodies_in s₂ in
    let r₂ = result_at n b₂ k in
    let h : k ≤ c = omega (arith, z.exists, y.count) in
    let before : rows_from n b₁ 0 k ≡ rows_from n b₂ 0 k = rows_same n b₁ b₂ e 0 k (λ j l i. same j (λ q. omega arith)) in
    let after : rows_from n b₁ (suc k) (c - k) ≡ rows_from n b₂ (suc k) (c - k) = rows_same n b₁ b₂ e (suc k) (c - k) (λ j l i. same j (λ q. omega arith)) in
    z.rows_are ∙ ap (spliced (16 * k) (row_bytes r₂)) (x.rows_are ∙ over_rows n b₁ rows k c x.count h)
    ∙ splice_mid (rows_from n b₁ 0 k) (row_bytes (result_at n b₁ k)) (row_bytes r₂) (rows_from n b₁ (suc k) (c - k) ++ drop (16 * suc c) rows) (16 * k) (rows_length n b₁ 0 k) (row_length (result_at n b₁ k)) (row_length r₂)
    ∙ rw (before, after) (sym (y.rows_are ∙ over_rows n b₂ rows k c y.count h))
