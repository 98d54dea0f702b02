-- A master's results: the preamble's, and each page's from what the preamble left (01, The machine: "Each page starts with an empty stack
-- over a mark that the engine places, the preamble's final frame and the preamble's cells"; Outcomes and numbers). In order: a page's end;
-- its result; the master; rows and sections as words and as bytes. Assumes nothing.
use Rattle.std.specs.Prelude.{ℕ, zero, suc, ◌+◌, ◌-◌, List, [], ◌∷◌, ◌++◌, map, reverse, ℤ, pos, length, drop, get_or, replicate}
use Rattle.std.proofs.Math.Seq.{slice}
use Rattle.std.specs.Int.{w32}
use Rattle.std.proofs.Common.{of_z}
use Rattle.table.specs.Words.{word_bytes}
use Rattle.machine.specs.declared.Value.{Value}
use Rattle.machine.specs.declared.Value.TheVariants.{Number, Identifier, Vector, Operator}
use Rattle.machine.specs.Limits.{sections_size}
use Rattle.machine.specs.State.{Entry, val, mark, State, zero_frame}
use Rattle.machine.specs.Skeleton.{Span}
use Rattle.machine.specs.Step.{run, begin, outcome}

-- ---- the end of the preamble and of a page, under an allowance

unfoldable pub preamble_end : ℕ → List ℕ → State
preamble_end allowance pre = run allowance (pre ∷ []) (begin (pre ∷ []) 0 zero_frame [])

unfoldable pub page_start : ℕ → List ℕ → List ℕ → State
page_start allowance pre body = let p = preamble_end allowance pre in begin (pre ∷ body ∷ []) 1 p.frame p.cells

unfoldable pub page_end : ℕ → List ℕ → List ℕ → State
page_end allowance pre body = run allowance (pre ∷ body ∷ []) (page_start allowance pre body)

-- ---- a result

-- "A row is outcome, errors (literals that failed), steps, cells charged by this page"
pub record Row : Type 0 where
  pub outcome : ℕ
  pub errors : ℕ
  pub steps : ℕ
  pub cells : ℕ

-- "A page's result is its row with its sections": the stack (top first here), the page body's own frame, the cells charged by it
pub record Result : Type 0 where
  pub row : Row
  pub stack : List Entry
  pub frame : List Value
  pub charged : List Value

-- of a run that ended in s and began with so many cells
unfoldable pub result_of : ℕ → State → Result
result_of before s = record {
  row = record { outcome = outcome s; errors = s.errors; steps = s.steps; cells = length s.cells - before };
  stack = s.stack;
  frame = s.frame;
  charged = drop before s.cells;
}

unfoldable pub preamble_result : ℕ → List ℕ → Result
preamble_result allowance pre = result_of 0 (preamble_end allowance pre)

unfoldable pub page_result : ℕ → List ℕ → List ℕ → Result
page_result allowance pre body = result_of (length (preamble_end allowance pre).cells) (page_end allowance pre body)

-- ---- a master whose skeleton is sound

-- the bytes of its bodies, the preamble's first
unfoldable pub bodies_of : List ℕ → List Span → List (List ℕ)
bodies_of s spans = map (λ (p : Span). slice p.start (p.start + p.len) s) spans

unfoldable pub preamble_of : List (List ℕ) → List ℕ
preamble_of bodies = get_or bodies 0 []

-- page n; page 0 is the preamble
unfoldable pub result_at : ℕ → List (List ℕ) → ℕ → Result
result_at allowance bodies zero = preamble_result allowance (preamble_of bodies)
result_at allowance bodies (suc n) = page_result allowance (preamble_of bodies) (get_or bodies (suc n) [])

-- ---- words

abbrev pub signed_bytes : ℤ → List ℕ
signed_bytes z = word_bytes (of_z w32 z)

unfoldable pub bytes_in : List ℤ → List ℕ
bytes_in [] = []
bytes_in (z ∷ zs) = signed_bytes z ++ bytes_in zs

unfoldable pub row_words : Row → List ℤ
row_words r = pos r.outcome ∷ pos r.errors ∷ pos r.steps ∷ pos r.cells ∷ []

-- "A value is five signed words"
unfoldable pub value_words : Value → List ℤ
value_words (Number a) = pos 1 ∷ a.num ∷ pos a.den ∷ pos 0 ∷ pos 0 ∷ []
value_words (Identifier origin start len) = pos 2 ∷ pos origin ∷ pos start ∷ pos len ∷ pos 0 ∷ []
value_words (Vector first lower count) = pos 3 ∷ pos first ∷ pos lower ∷ pos count ∷ pos 0 ∷ []
value_words (Operator origin start len first) = pos 4 ∷ pos origin ∷ pos start ∷ pos len ∷ pos first ∷ []

unfoldable pub entry_words : Entry → List ℤ
entry_words (val v) = value_words v
entry_words (mark k) = pos 5 ∷ pos 0 ∷ pos 0 ∷ pos 0 ∷ pos 0 ∷ []

unfoldable pub all_words : List Entry → List ℤ
all_words [] = []
all_words (e ∷ es) = entry_words e ++ all_words es

-- a section after its count
unfoldable pub section_words : List Entry → List ℤ
section_words es = pos (length es) ∷ all_words es

-- "in fixed order, each after its count: stack (bottom first), frame (50, the page body's own), cells charged by it"
unfoldable pub result_words : Result → List ℤ
result_words r = section_words (reverse r.stack) ++ (section_words (map val r.frame) ++ section_words (map val r.charged))

-- ---- bytes of the tables

unfoldable pub row_bytes : Result → List ℕ
row_bytes r = bytes_in (row_words r.row)

-- the rows of pages n, n + 1, .. , k of them
unfoldable pub rows_from : ℕ → List (List ℕ) → ℕ → ℕ → List ℕ
rows_from allowance bodies n zero = []
rows_from allowance bodies n (suc k) = row_bytes (result_at allowance bodies n) ++ rows_from allowance bodies (suc n) k

-- row 0 and the rows of the existing pages
unfoldable pub rows_of : ℕ → List (List ℕ) → List ℕ
rows_of allowance bodies = rows_from allowance bodies 0 (length bodies)

-- the sections "with zero after the last value"
unfoldable pub section_bytes : Result → List ℕ
section_bytes r = let b = bytes_in (result_words r) in b ++ replicate (sections_size - length b) 0
