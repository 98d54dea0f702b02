-- What `load`, `run` and `reprint` promise: the answer, and every byte of every lent table, refused input too (01, Outcomes and numbers:
-- "Order: 10, 11, 14, 1, then left to right. .. Then 7, 13, 12"; "A refusal leaves every lent table as found, except that 12 leaves scratch
-- zero. An accepted run leaves scratch zero, row 0 and the rows of existing pages written, later rows untouched. Reprint leaves scratch
-- zero and writes one row and its sections, with zero after the last value"; "Of a longer table only these first words are used").
-- In order: what is judged before anything runs; tables; load; run; reprint. Assumes nothing.
use Rattle.std.specs.Prelude.{Ok, Err, ℕ, ◌+◌, ◌-◌, ◌*◌, ◌≡◌, Bool, cond, ◌&&◌, List, ◌++◌, eqb, leb, ℤ, pos, nat_abs, length, take, drop, replicate}
use Rattle.tokens.specs.Refusal.{refusal_at, Outcome}
use Rattle.std.specs.Int.Signed.{le_z, lt_z}
use Rattle.tokens.specs.declared.Refusal.{Refusal}
use Rattle.tokens.specs.declared.Refusal.TheVariants.{TooLong, TableTooShort, PreambleUnfinished, NoSuchPage, BadAllowance}
use Rattle.tokens.specs.Format.{longest}
use Rattle.machine.specs.Limits.{most_steps, scratch_size, sections_size, rows_size}
use Rattle.machine.specs.Skeleton.{Skeleton, sound, refused, skeleton_of}
use Rattle.machine.specs.Step.{outcome}
use Rattle.machine.specs.Page.{preamble_end, bodies_of, preamble_of, result_at, row_bytes, rows_of, section_bytes}

-- ---- before anything runs

-- the bodies of a master that may run, the preamble's first; a preamble that ran out of steps; any other refusal
pub data Verdict : Type 0 where
  accepted : List (List ℕ) → Verdict
  unfinished : Verdict
  halted : Refusal → ℕ → Verdict

-- what follows a sound skeleton
unfoldable pub on_sound : List ℕ → Skeleton → (List (List ℕ) → Verdict) → Verdict
on_sound s (sound spans) rest = rest (bodies_of s spans)
on_sound s (refused refusal place) rest = halted refusal place

-- "1 to 1000000"
unfoldable pub allowed : ℤ → Bool
allowed allowance = le_z (pos 1) allowance && le_z allowance (pos most_steps)

-- 10, 11, 14, then the skeleton; `enough`: every lent table is long enough
unfoldable pub admitted : List ℕ → ℤ → Bool → (List (List ℕ) → Verdict) → Verdict
admitted s allowance enough rest =
    let skeleton = on_sound s (skeleton_of s) rest in
    cond (leb (length s) longest) (cond enough (cond (allowed allowance) skeleton (halted BadAllowance 0)) (halted TableTooShort 0)) (halted TooLong 0)

-- 12 is "preamble outcome B"
unfoldable pub finished : ℤ → List (List ℕ) → Verdict
finished allowance bodies = cond (eqb (outcome (preamble_end (nat_abs allowance) (preamble_of bodies))) 3) unfinished (accepted bodies)

-- ---- tables

-- the first bytes are now b, the rest as found
unfoldable pub over : List ℕ → List ℕ → List ℕ
over b table = b ++ drop (length b) table

-- the bytes b stand from `at` on, the rest as found
unfoldable pub spliced : ℕ → List ℕ → List ℕ → List ℕ
spliced at b table = take at table ++ (b ++ drop (at + length b) table)

unfoldable pub cleared : List ℕ → List ℕ
cleared scratch = over (replicate scratch_size 0) scratch

unfoldable pub scratch_leaves : Verdict → List ℕ → List ℕ
scratch_leaves (accepted bodies) scratch = cleared scratch
scratch_leaves unfinished scratch = cleared scratch
scratch_leaves (halted refusal place) scratch = scratch

-- ---- load

-- the pages, without the preamble
unfoldable pub pages_in : Skeleton → Outcome
pages_in (sound spans) = Ok (length spans - 1)
pages_in (refused refusal place) = Err (refusal_at refusal place)

-- "answers its page count"
unfoldable pub load_answer : List ℕ → Outcome
load_answer s = cond (leb (length s) longest) (pages_in (skeleton_of s)) (Err (refusal_at TooLong 0))

pub record Loads (s : List ℕ) (r : Outcome) : Type 0 where
  pub answer : r ≡ load_answer s

-- ---- run

unfoldable pub run_verdict : List ℕ → ℤ → List ℕ → List ℕ → Verdict
run_verdict s allowance scratch rows = admitted s allowance (leb scratch_size (length scratch) && leb rows_size (length rows)) (finished allowance)

-- "answers the page count"
unfoldable pub run_answer : Verdict → Outcome
run_answer (accepted bodies) = Ok (length bodies - 1)
run_answer unfinished = Err (refusal_at PreambleUnfinished 0)
run_answer (halted refusal place) = Err (refusal_at refusal place)

unfoldable pub rows_leaves : ℤ → Verdict → List ℕ → List ℕ
rows_leaves allowance (accepted bodies) rows = over (rows_of (nat_abs allowance) bodies) rows
rows_leaves allowance unfinished rows = rows
rows_leaves allowance (halted refusal place) rows = rows

-- `run` of the master s: it answers r, and the tables are scratch' and rows' afterwards
pub record Runs (s : List ℕ) (allowance : ℤ) (scratch scratch' rows rows' : List ℕ) (r : Outcome) : Type 0 where
  pub answer : r ≡ run_answer (run_verdict s allowance scratch rows)
  pub scratch_left : scratch' ≡ scratch_leaves (run_verdict s allowance scratch rows) scratch
  pub rows_left : rows' ≡ rows_leaves allowance (run_verdict s allowance scratch rows) rows

-- ---- reprint

-- 13, then 12
unfoldable pub paged : ℤ → ℤ → List (List ℕ) → Verdict
paged allowance page bodies = cond (le_z (pos 0) page && lt_z page (pos (length bodies))) (finished allowance bodies) (halted NoSuchPage 0)

unfoldable pub reprint_verdict : List ℕ → ℤ → ℤ → List ℕ → List ℕ → List ℕ → Verdict
reprint_verdict s allowance page scratch rows sections =
    admitted s allowance (leb scratch_size (length scratch) && (leb rows_size (length rows) && leb sections_size (length sections))) (paged allowance page)

-- "answers that number"
unfoldable pub reprint_answer : ℤ → Verdict → Outcome
reprint_answer page (accepted bodies) = Ok (nat_abs page)
reprint_answer page unfinished = Err (refusal_at PreambleUnfinished 0)
reprint_answer page (halted refusal place) = Err (refusal_at refusal place)

unfoldable pub row_leaves : ℤ → ℤ → Verdict → List ℕ → List ℕ
row_leaves allowance page (accepted bodies) rows = spliced (16 * nat_abs page) (row_bytes (result_at (nat_abs allowance) bodies (nat_abs page))) rows
row_leaves allowance page unfinished rows = rows
row_leaves allowance page (halted refusal place) rows = rows

unfoldable pub sections_leaves : ℤ → ℤ → Verdict → List ℕ → List ℕ
sections_leaves allowance page (accepted bodies) sections = over (section_bytes (result_at (nat_abs allowance) bodies (nat_abs page))) sections
sections_leaves allowance page unfinished sections = sections
sections_leaves allowance page (halted refusal place) sections = sections

-- `reprint` of a page of the master s; page 0 is the preamble
pub record Reprints (s : List ℕ) (allowance page : ℤ) (scratch scratch' rows rows' sections sections' : List ℕ) (r : Outcome) : Type 0 where
  pub answer : r ≡ reprint_answer page (reprint_verdict s allowance page scratch rows sections)
  pub scratch_left : scratch' ≡ scratch_leaves (reprint_verdict s allowance page scratch rows sections) scratch
  pub rows_left : rows' ≡ row_leaves allowance page (reprint_verdict s allowance page scratch rows sections) rows
  pub sections_left : sections' ≡ sections_leaves allowance page (reprint_verdict s allowance page scratch rows sections) sections
