-- What the preamble and a page leave in the table, and a whole master: for contracts of inner functions alone. Assumes nothing.
use Rattle.std.specs.Prelude.{ℕ, ◌+◌, ◌*◌, ◌<◌, ◌≤◌, ◌≡◌, List, [], pos, length, get_or, replicate}
use Rattle.std.proofs.lemmas.List.Edits.{sets}
use Rattle.table.specs.Slots.{slots}
use Rattle.machine.specs.Step.{run, begin}
use Rattle.tokens.specs.Refusal.{Outcome}
use Rattle.machine.specs.Limits.{most_pages, scratch_size, most_cells}
use Rattle.machine.specs.Promise.{finished, over, run_answer, rows_leaves, reprint_answer, row_leaves, sections_leaves}
use Rattle.machine.specs.Readable.{Whole}
use Rattle.skeleton.specs.Spans.{Placed}
use Rattle.machine.specs.Page.{Result, preamble_end, page_result, row_bytes, section_bytes}
use Rattle.names.specs.Names.{both}
use Rattle.state.specs.declared.Registers.{Registers}
use Rattle.state.specs.Layout.{values_at, aside, abs, Good}

-- the preamble's end, its frame kept aside
pub record Preambled (pre : List ℕ) (allowance : ℕ) (w : List ℕ) (r : Registers) : Type 0 where
  pub good : Good w r
  pub does : abs w r ≡ preamble_end allowance pre
  pub kept : aside w ≡ (preamble_end allowance pre).frame
  pub counted : r.steps ≤ allowance

-- a page's end, from the frame kept aside and the first cells, which stay
pub record Paged (pre body : List ℕ) (used allowance : ℕ) (w w' : List ℕ) (r : Registers) : Type 0 where
  pub good : Good w' r
  pub does : abs w' r ≡ run allowance (both pre body) (begin (both pre body) 1 (aside w) (values_at (slots w) 728 used))
  pub keeps : aside w' ≡ aside w
  pub cells : values_at (slots w') 728 used ≡ values_at (slots w) 728 used
  pub more : used ≤ r.used
  pub counted : r.steps ≤ allowance

-- what a page starts from: the preamble's final frame, kept aside, and its cells
pub record Ready (pre : List ℕ) (allowance used : ℕ) (w : List ℕ) : Type 0 where
  pub room : scratch_size ≤ length w
  pub frame_kept : aside w ≡ (preamble_end allowance pre).frame
  pub cells_kept : values_at (slots w) 728 used ≡ (preamble_end allowance pre).cells
  pub few : used ≤ most_cells

-- a page run and its row written; the next may start
pub record Rowed (pre body : List ℕ) (allowance used n : ℕ) (w' rows rows' : List ℕ) : Type 0 where
  pub ready : Ready pre allowance used w'
  pub row : rows' ≡ sets rows (16 * n) (row_bytes (page_result allowance pre body))

-- ---- a whole master

-- a table of places, and in it the body of that number and those before, all of them judged
pub record Holds (s t : List ℕ) (page : ℕ) : Type 0 where
  pub wide : 2 * most_pages + 2 ≤ length t
  pub bodies : List (List ℕ)
  pub placed : Placed s t bodies
  pub there : page < length bodies
  pub whole : (i : ℕ) → Whole (get_or bodies i [])

-- every body run: the answer, the table and the rows
pub record RanAll (allowance : ℕ) (bodies : List (List ℕ)) (w' rows rows' : List ℕ) (r : Outcome) : Type 0 where
  pub answer : r ≡ run_answer (finished (pos allowance) bodies)
  pub clear : w' ≡ replicate scratch_size 0
  pub rows_are : rows' ≡ rows_leaves (pos allowance) (finished (pos allowance) bodies) rows

-- ---- one body of a master

-- a result's row and sections
pub record Shown (x : Result) (page : ℕ) (rows rows' sections sections' : List ℕ) : Type 0 where
  pub row : rows' ≡ sets rows (16 * page) (row_bytes x)
  pub sections_are : sections' ≡ over (section_bytes x) sections

-- the body reprinted: the answer and the tables
pub record Reprinted (allowance page : ℕ) (bodies : List (List ℕ)) (w' rows rows' sections sections' : List ℕ) (r : Outcome) : Type 0 where
  pub answer : r ≡ reprint_answer (pos page) (finished (pos allowance) bodies)
  pub clear : w' ≡ replicate scratch_size 0
  pub rows_are : rows' ≡ row_leaves (pos allowance) (pos page) (finished (pos allowance) bodies) rows
  pub sections_are : sections' ≡ sections_leaves (pos allowance) (pos page) (finished (pos allowance) bodies) sections
