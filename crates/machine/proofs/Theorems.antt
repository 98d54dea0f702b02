-- The theorems of `load`, `run` and `reprint`, over their promises, and of every moment of a run. In order: one answer; what a refusal
-- leaves; the same page; a page reprinted; the rest of rows; load, then run; moments; cases. `bodies_in s` are the bytes of the master's
-- bodies, the preamble's first. Work: Verdicts, RowsKept, SamePage; Guarded, WithinLimits, Kept, Moments; AllCases. Assumes nothing.
use Rattle.std.specs.Prelude.{Ok, Err}
use Rattle.tokens.specs.Refusal.{refusal_at, Outcome}
use Prim.Native.Nat.{ℕ, ◌+◌, ◌*◌, ◌≤◌, ◌<◌, zero, suc}
use mathlib.Core.Path.{◌≡◌, sym, ◌∙◌, refl}
use mathlib.Core.Logic.{◌≢◌, ◌⊎◌}
use mathlib.Core.List.{List, [], ◌∷◌}
use native.Mathlib.Omega.{arith}
use lib.IntN.{ℤ, pos, nat_abs}
use lib.ListN.{length, get_or, take}
use lib.Seq.{slice}
use Rattle.tokens.specs.declared.Refusal.{Refusal}
use Rattle.tokens.specs.declared.Refusal.TheVariants.{PreambleUnfinished}
use Rattle.machine.specs.Limits.{most_steps, scratch_size, rows_size, sections_size}
use Rattle.machine.specs.Promise.{cleared, load_answer, Loads, run_verdict, run_answer, Runs, Reprints}
use Rattle.machine.proofs.Verdicts.{bodies_in, ran, run_refused, reprinted, reprint_refused, run_loaded}
use Rattle.machine.proofs.RowsKept.{ran_row, ran_rest, reprinted_row, reprinted_others}
use Rattle.machine.proofs.SamePage.{preamble_same, page_same, same_row, same_sections, one_changed}
use mathlib.Core.Bool.{true, false}
use Rattle.machine.specs.declared.Value.{Value}
use Rattle.machine.specs.declared.Value.TheVariants.{Vector, Operator}
use Rattle.machine.specs.Engine.{values, kept}
use Rattle.machine.specs.Isolation.{code_at, start_at, moment, member, Protected, Bounded}
use Rattle.machine.proofs.Guarded.{moments_protected}
use Rattle.machine.proofs.Moments.{start_good, moment_bounded}
use Rattle.machine.proofs.Kept.{Sound, moment_sound, top_kept, second_kept}
use Rattle.machine.specs.Page.{result_of, preamble_end, page_start, page_end, preamble_result, page_result, bodies_of, result_at}
use Rattle.numbers.specs.Each.{Each}
use Rattle.machine.specs.Cases.{cases, Holds}
use Rattle.machine.specs.Masters.{masters, RunsWhole}
use Rattle.machine.proofs.AllCases.{all_hold}
use Rattle.machine.proofs.Literals.{LiteralDue, literal_due}
use Rattle.machine.specs.Skeleton.{Span, sound, skeleton_of}
use Rattle.machine.specs.Contexts.{settle}
use Rattle.machine.specs.Step.{ended, begin}

-- ---- one answer

-- THEOREM (demand 1). The promise of `load` leaves one answer.
pub load_one : {s : List ℕ} {r₁ r₂ : Outcome} → Loads s r₁ → Loads s r₂ → r₁ ≡ r₂
load_one p q = p.answer ∙ sym q.answer

-- THEOREM (demand 1). The promise of `run` leaves one answer and one content of each table.
pub run_one : {s : List ℕ} {a : ℤ} {scratch scr₁ scr₂ rows rows₁ rows₂ : List ℕ} {r₁ r₂ : Outcome}
    → Runs s a scratch scr₁ rows rows₁ r₁ → Runs s a scratch scr₂ rows rows₂ r₂ → (r₁ ≡ r₂) × (scr₁ ≡ scr₂) × (rows₁ ≡ rows₂)
run_one p q = (p.answer ∙ sym q.answer, p.scratch_left ∙ sym q.scratch_left, p.rows_left ∙ sym q.rows_left)

-- THEOREM (demand 1). The promise of `reprint` leaves one answer and one content of each table.
pub reprint_one : {s : List ℕ} {a page : ℤ} {scratch scr₁ scr₂ rows rows₁ rows₂ sections sec₁ sec₂ : List ℕ} {r₁ r₂ : Outcome}
    → Reprints s a page scratch scr₁ rows rows₁ sections sec₁ r₁ → Reprints s a page scratch scr₂ rows rows₂ sections sec₂ r₂
    → (r₁ ≡ r₂) × (scr₁ ≡ scr₂) × (rows₁ ≡ rows₂) × (sec₁ ≡ sec₂)
reprint_one p q = (p.answer ∙ sym q.answer, p.scratch_left ∙ sym q.scratch_left, p.rows_left ∙ sym q.rows_left, p.sections_left ∙ sym q.sections_left)

-- ---- what a refusal leaves

-- THEOREM (demand 1). A refused `run` leaves rows as found, and scratch too, but cleared where the preamble ran out of steps.
pub run_kept : {s : List ℕ} {a : ℤ} {scratch scratch' rows rows' : List ℕ} {w : Refusal} {p : ℕ} → Runs s a scratch scratch' rows rows' (Err (refusal_at w p))
    → (rows' ≡ rows) × (w ≢ PreambleUnfinished → scratch' ≡ scratch) × (w ≡ PreambleUnfinished → scratch' ≡ cleared scratch)
run_kept r = let k = run_refused r in (k.0, k.1.0, k.1.1)

-- THEOREM (demand 1). A refused `reprint` leaves rows and sections as found, and scratch as a refused `run` does.
pub reprint_kept : {s : List ℕ} {a page : ℤ} {scratch scratch' rows rows' sections sections' : List ℕ} {w : Refusal} {p : ℕ}
    → Reprints s a page scratch scratch' rows rows' sections sections' (Err (refusal_at w p))
    → (rows' ≡ rows) × (sections' ≡ sections) × (w ≢ PreambleUnfinished → scratch' ≡ scratch) × (w ≡ PreambleUnfinished → scratch' ≡ cleared scratch)
reprint_kept r = let k = reprint_refused r in (k.0, k.1, k.2.0, k.2.1)

-- THEOREM (demand 1). A `run` that is done leaves scratch cleared.
pub run_cleared : {s : List ℕ} {a : ℤ} {scratch scratch' rows rows' : List ℕ} {c : ℕ} → Runs s a scratch scratch' rows rows' (Ok c) → scratch' ≡ cleared scratch
run_cleared r = (ran r).scratch_is

-- THEOREM (demand 1). A `reprint` that is done leaves scratch cleared.
pub reprint_cleared : {s : List ℕ} {a page : ℤ} {scratch scratch' rows rows' sections sections' : List ℕ} {n : ℕ}
    → Reprints s a page scratch scratch' rows rows' sections sections' (Ok n) → scratch' ≡ cleared scratch
reprint_cleared r = (reprinted r).scratch_is

-- ---- the same page

-- THEOREM (demand 3). Equal preamble bytes and equal body bytes under one allowance: the rows of the two pages are equal in every byte,
-- wherever the pages stand in their masters.
pub same_page : {s₁ s₂ : List ℕ} {a : ℤ} {scr₁ scr₁' rows₁ rows₁' scr₂ scr₂' rows₂ rows₂' : List ℕ} {c₁ c₂ n₁ n₂ : ℕ}
    → Runs s₁ a scr₁ scr₁' rows₁ rows₁' (Ok c₁) → Runs s₂ a scr₂ scr₂' rows₂ rows₂' (Ok c₂) → 1 ≤ n₁ → n₁ ≤ c₁ → 1 ≤ n₂ → n₂ ≤ c₂
    → get_or (bodies_in s₁) 0 [] ≡ get_or (bodies_in s₂) 0 [] → get_or (bodies_in s₁) n₁ [] ≡ get_or (bodies_in s₂) n₂ []
    → slice (16 * n₁) (16 * n₁ + 16) rows₁' ≡ slice (16 * n₂) (16 * n₂ + 16) rows₂'
same_page {s₁} {s₂} {a} p q h₁ l₁ h₂ l₂ e f = same_row (ran p) (ran q) l₁ l₂ (page_same (nat_abs a) (bodies_in s₁) (bodies_in s₂) e _ _ h₁ h₂ f)

-- THEOREM (demand 3). And so are the sections that a reprint of each writes.
pub same_page_sections : {s₁ s₂ : List ℕ} {a : ℤ} {n₁ n₂ : ℕ} {scr₁ scr₁' rows₁ rows₁' sec₁ sec₁' scr₂ scr₂' rows₂ rows₂' sec₂ sec₂' : List ℕ}
    → Reprints s₁ a (pos n₁) scr₁ scr₁' rows₁ rows₁' sec₁ sec₁' (Ok n₁) → Reprints s₂ a (pos n₂) scr₂ scr₂' rows₂ rows₂' sec₂ sec₂' (Ok n₂) → 1 ≤ n₁ → 1 ≤ n₂
    → get_or (bodies_in s₁) 0 [] ≡ get_or (bodies_in s₂) 0 [] → get_or (bodies_in s₁) n₁ [] ≡ get_or (bodies_in s₂) n₂ [] → take sections_size sec₁' ≡ take sections_size sec₂'
same_page_sections {s₁} {s₂} {a} p q h₁ h₂ e f =
    same_sections (reprinted p) (reprinted q) (page_same (nat_abs a) (bodies_in s₁) (bodies_in s₂) e _ _ h₁ h₂ f) sections_size (omega arith)

-- THEOREM (demand 3). Equal preamble bytes under one allowance: row 0 is equal in every byte.
pub same_preamble : {s₁ s₂ : List ℕ} {a : ℤ} {scr₁ scr₁' rows₁ rows₁' scr₂ scr₂' rows₂ rows₂' : List ℕ} {c₁ c₂ : ℕ}
    → Runs s₁ a scr₁ scr₁' rows₁ rows₁' (Ok c₁) → Runs s₂ a scr₂ scr₂' rows₂ rows₂' (Ok c₂)
    → get_or (bodies_in s₁) 0 [] ≡ get_or (bodies_in s₂) 0 [] → slice 0 16 rows₁' ≡ slice 0 16 rows₂'
same_preamble {s₁} {s₂} {a} p q e = same_row (ran p) (ran q) (omega arith) (omega arith) (preamble_same (nat_abs a) (bodies_in s₁) (bodies_in s₂) e)

-- THEOREM (demand 3). And so are the preamble's sections.
pub same_preamble_sections : {s₁ s₂ : List ℕ} {a : ℤ} {scr₁ scr₁' rows₁ rows₁' sec₁ sec₁' scr₂ scr₂' rows₂ rows₂' sec₂ sec₂' : List ℕ}
    → Reprints s₁ a (pos 0) scr₁ scr₁' rows₁ rows₁' sec₁ sec₁' (Ok 0) → Reprints s₂ a (pos 0) scr₂ scr₂' rows₂ rows₂' sec₂ sec₂' (Ok 0)
    → get_or (bodies_in s₁) 0 [] ≡ get_or (bodies_in s₂) 0 [] → take sections_size sec₁' ≡ take sections_size sec₂'
same_preamble_sections {s₁} {s₂} {a} p q e = same_sections (reprinted p) (reprinted q) (preamble_same (nat_abs a) (bodies_in s₁) (bodies_in s₂) e) sections_size (omega arith)

-- ---- a page reprinted

-- THEOREM (demand 3). Two masters with as many pages that differ at most in page k: reprinting page k of the second over the rows that a run
-- of the first left gives the rows that a run of the second leaves, every byte.
pub reprint_rows : {s₁ s₂ : List ℕ} {a : ℤ} {c k : ℕ} {scr₁ scr₁' scr₂ scr₂' scr₃ scr₃' rows rows₁ rows₂ rows₃ sec sec' : List ℕ}
    → Runs s₁ a scr₁ scr₁' rows rows₁ (Ok c) → Runs s₂ a scr₂ scr₂' rows rows₂ (Ok c) → Reprints s₂ a (pos k) scr₃ scr₃' rows₁ rows₃ sec sec' (Ok k)
    → get_or (bodies_in s₁) 0 [] ≡ get_or (bodies_in s₂) 0 [] → ((j : ℕ) → j ≢ k → get_or (bodies_in s₁) j [] ≡ get_or (bodies_in s₂) j []) → rows₃ ≡ rows₂
reprint_rows p q r e f = one_changed (ran p) (ran q) (reprinted r) e f

-- THEOREM (demand 3). A reprint leaves every byte outside its row as found.
pub reprint_others : {s : List ℕ} {a : ℤ} {k : ℕ} {scratch scratch' rows rows' sections sections' : List ℕ}
    → Reprints s a (pos k) scratch scratch' rows rows' sections sections' (Ok k)
    → (length rows' ≡ length rows) × ((i : ℕ) → (i < 16 * k) ⊎ (16 * k + 16 ≤ i) → get_or rows' i 0 ≡ get_or rows i 0)
reprint_others r = reprinted_others (reprinted r)

-- THEOREM (demand 3). The row that it writes is the one that a full run of the same master leaves.
pub reprint_row : {s : List ℕ} {a : ℤ} {c k : ℕ} {scr₀ scr₀' rows₀ rows₀' scratch scratch' rows rows' sections sections' : List ℕ}
    → Runs s a scr₀ scr₀' rows₀ rows₀' (Ok c) → Reprints s a (pos k) scratch scratch' rows rows' sections sections' (Ok k)
    → slice (16 * k) (16 * k + 16) rows' ≡ slice (16 * k) (16 * k + 16) rows₀'
reprint_row p r = reprinted_row (reprinted r) ∙ sym (ran_row _ (omega (arith, (ran p).count, (reprinted r).exists)) (ran p))

-- ---- the rest of rows

-- THEOREM (demand 1). A run leaves every byte past the last page's row as found.
pub run_rows_rest : {s : List ℕ} {a : ℤ} {scratch scratch' rows rows' : List ℕ} {c : ℕ} → Runs s a scratch scratch' rows rows' (Ok c)
    → (length rows' ≡ length rows) × ((i : ℕ) → 16 * (c + 1) ≤ i → get_or rows' i 0 ≡ get_or rows i 0)
run_rows_rest r = ran_rest (ran r)

-- ---- load, then run

-- THEOREM (demand 2). A master that `load` accepts is run, given long tables and an allowance in range: the answer is the same page count, or
-- the preamble ran out of steps.
pub load_run : (s scratch rows : List ℕ) (n c : ℕ) → load_answer s ≡ Ok c → scratch_size ≤ length scratch → rows_size ≤ length rows → 1 ≤ n → n ≤ most_steps
    → (run_answer (run_verdict s (pos n) scratch rows) ≡ Ok c) ⊎ (run_answer (run_verdict s (pos n) scratch rows) ≡ Err (refusal_at PreambleUnfinished 0))
load_run s scratch rows n c e x y l m = run_loaded s n scratch rows c e x y l m

-- ---- every moment of a run

-- THEOREM (demand 3). "While a called body runs, nothing at or below a running caller's topmost mark changes, nor a caller's frame": between
-- any two moments of a page's run at both of which the called body with the identity d is in progress; recovery and dead marks are included.
pub protected : (allowance : ℕ) (bodies : List (List ℕ)) (n i j d : ℕ) → i ≤ j → member d (moment allowance bodies n i).contexts ≡ true
    → member d (moment allowance bodies n j).contexts ≡ true → Protected d (moment allowance bodies n i) (moment allowance bodies n j)
unfolding moment
protected allowance bodies n i j d = moments_protected (code_at bodies n) (start_at allowance bodies n) i j d (start_good allowance bodies n)

-- THEOREM (demand 2). Every state reached keeps the limits of 01.
pub bounded : (allowance : ℕ) (bodies : List (List ℕ)) (n i : ℕ) → Bounded (moment allowance bodies n i)
bounded = moment_bounded

-- THEOREM (demand 2). An operator value on top of the stack has its frame among the cells and its body in its origin's bytes, so the test
-- in `call` never fails.
pub calls_kept : (allowance : ℕ) (bodies : List (List ℕ)) (n i : ℕ) (origin start len first : ℕ) (rest : List Value)
    → values (moment allowance bodies n i) ≡ Operator origin start len first ∷ rest
    → kept (code_at bodies n) origin start len first (moment allowance bodies n i).cells ≡ true
calls_kept allowance bodies n i origin start len first rest = top_kept (code_at bodies n) (moment allowance bodies n i) origin start len first rest (moment_sound allowance bodies n i)

-- THEOREM (demand 2). A vector that GET is given has its elements among the cells, so GET never meets the default of `get_or`.
pub elements_kept : (allowance : ℕ) (bodies : List (List ℕ)) (n i : ℕ) (index : Value) (first lower count : ℕ) (rest : List Value)
    → values (moment allowance bodies n i) ≡ index ∷ Vector first lower count ∷ rest → first + count ≤ length (moment allowance bodies n i).cells
elements_kept allowance bodies n i index first lower count rest =
    second_kept (code_at bodies n) (moment allowance bodies n i) index first lower count rest (moment_sound allowance bodies n i)

-- THEOREM (demand 2). The same of every operator and vector, wherever it stands: on the stack, in a frame, in a cell.
pub all_kept : (allowance : ℕ) (bodies : List (List ℕ)) (n i : ℕ) → Sound (code_at bodies n) (moment allowance bodies n i)
all_kept = moment_sound

-- THEOREM (demand 2). In a master whose skeleton is sound, a run that has not ended has a literal due: the default of `found_at` is never met.
pub literals_due : (s : List ℕ) (spans : List Span) → skeleton_of s ≡ sound spans → (allowance n i : ℕ) → ended (moment allowance (bodies_of s spans) n i).contexts ≡ false
    → LiteralDue (code_at (bodies_of s spans) n) (moment allowance (bodies_of s spans) n i)
literals_due = literal_due

-- THEOREM (demand 2). A result, the preamble's too, is that of the moment when the allowance is used up.
pub end_is_moment : (allowance : ℕ) (bodies : List (List ℕ)) (n : ℕ)
    → result_at allowance bodies n ≡ result_of (length (start_at allowance bodies n).cells) (moment allowance bodies n allowance)
unfolding result_at preamble_result page_result preamble_end page_end moment code_at start_at page_start begin settle
end_is_moment allowance bodies zero = refl
end_is_moment allowance bodies (suc n) = refl

-- THEOREM (demand 2). The P cases of 01 that run, and their neighbours.
pub cases_hold : Each Holds cases
cases_hold = all_hold.0

-- THEOREM (demand 2). Whole masters: the answer of `load` and of `run`, and the rows.
pub masters_hold : Each RunsWhole masters
masters_hold = all_hold.1
