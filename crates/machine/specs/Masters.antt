-- Whole masters that are proved to load and to run as 01 says, as one table: the bytes after the header, the answer of `load` and of `run`,
-- and the rows, the preamble's first, under 100000 steps. proofs/AllCases.antt proves each. Assumes nothing.
use Rattle.std.specs.Prelude.{Ok, Err, ℕ, ◌≡◌, List, [], ◌∷◌, ◌++◌, pos}
use Rattle.tokens.specs.Refusal.{refusal_at, Outcome}
use Rattle.tokens.specs.declared.Refusal.TheVariants.{CutOff, AfterEnd}
use Rattle.tokens.specs.Format.{header}
use Rattle.machine.specs.Skeleton.{skeleton_of}
use Rattle.machine.specs.Page.{Row, row_words, bytes_in}
use Rattle.machine.specs.Promise.{Verdict, on_sound, finished, load_answer, run_answer, rows_leaves}

pub record Master : Type 0 where
  pub bytes : List ℕ
  pub answer : Outcome
  pub rows : List Row

master : List ℕ → Outcome → List Row → Master
master b r rows = record { bytes = b; answer = r; rows = rows }

row : ℕ → ℕ → ℕ → ℕ → Row
row outcome errors steps cells = record { outcome = outcome; errors = errors; steps = steps; cells = cells }

unfoldable pub rows_bytes : List Row → List ℕ
rows_bytes [] = []
rows_bytes (r ∷ rs) = bytes_in (row_words r) ++ rows_bytes rs

-- what `run` judges once the tables and the allowance are right
unfoldable pub judged_whole : Master → Verdict
judged_whole m = let s = header ++ m.bytes in on_sound s (skeleton_of s) (finished (pos 100000))

abbrev pub RunsWhole : Master → Type 0
RunsWhole m =
    (load_answer (header ++ m.bytes) ≡ m.answer)
    × (run_answer (judged_whole m) ≡ m.answer)
    × (rows_leaves (pos 100000) (judged_whole m) [] ≡ rows_bytes m.rows)

unfoldable pub masters : List Master
unfolding master row
masters =
    -- 01, The listing
    master (160 ∷ 102 ∷ 160 ∷ 106 ∷ 160 ∷ 107 ∷ 160 ∷ 106 ∷ 15 ∷ 167 ∷ 160 ∷ 107 ∷ 160 ∷ 103 ∷ []) (Ok 1) (row 1 0 0 0 ∷ row 1 0 1 0 ∷ [])
    -- 01, The listing: BEGIN alone
    ∷ master (160 ∷ 102 ∷ []) (Err (refusal_at CutOff 23)) []
    -- R5: a comment after END
    ∷ master (160 ∷ 102 ∷ 160 ∷ 106 ∷ 160 ∷ 107 ∷ 160 ∷ 103 ∷ 198 ∷ 0 ∷ []) (Err (refusal_at AfterEnd 29)) []
    -- a preamble that leaves a frame and cells, and three pages
    ∷ master (160 ∷ 102 ∷ 160 ∷ 106 ∷ 15 ∷ 165 ∷ 15 ∷ 160 ∷ 149 ∷ 193 ∷ 2 ∷ 97 ∷ 98 ∷ 15 ∷ 161 ∷ 149 ∷ 160 ∷ 114 ∷ 160 ∷ 106 ∷ 15 ∷ 160 ∷ 148 ∷ 15 ∷ 161 ∷ 160 ∷ 201 ∷ 160 ∷ 107 ∷ 15 ∷ 162 ∷ 149 ∷ 15 ∷ 161 ∷ 15 ∷ 162 ∷ 160 ∷ 107 ∷ 160 ∷ 106 ∷ 15 ∷ 160 ∷ 148 ∷ 15 ∷ 161 ∷ 148 ∷ 160 ∷ 107 ∷ 160 ∷ 106 ∷ 15 ∷ 162 ∷ 148 ∷ 160 ∷ 231 ∷ 15 ∷ 169 ∷ 15 ∷ 160 ∷ 149 ∷ 193 ∷ 3 ∷ 120 ∷ 121 ∷ 122 ∷ 160 ∷ 107 ∷ 160 ∷ 106 ∷ 15 ∷ 160 ∷ 148 ∷ 15 ∷ 162 ∷ 148 ∷ 160 ∷ 231 ∷ 160 ∷ 107 ∷ 160 ∷ 103 ∷ []) (Ok 3) (row 1 0 11 52 ∷ row 1 0 4 0 ∷ row 1 0 11 3 ∷ row 1 0 9 0 ∷ [])
    ∷ []
