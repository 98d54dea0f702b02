-- The house limits and sizes of 01. Assumes nothing.
use Rattle.std.specs.Prelude.{ℕ}

-- "frame 50 elements"; "Stack 128 entries, marks counted"; "Contexts in progress 12"; "room is 1024 cells"
abbrev pub frame_size : ℕ
frame_size = 50

abbrev pub most_entries : ℕ
most_entries = 128

abbrev pub most_contexts : ℕ
most_contexts = 12

abbrev pub most_cells : ℕ
most_cells = 1024

-- "Cardinals to 16777215"
abbrev pub most_cardinal : ℕ
most_cardinal = 16777215

-- "up to 16 open bodies"; "a 513th page"
abbrev pub most_open : ℕ
most_open = 16

abbrev pub most_pages : ℕ
most_pages = 512

-- "The allowance, 1 to 1000000"
abbrev pub most_steps : ℕ
most_steps = 1000000

-- "Sizes: scratch 12000 words, sections 6013 words, rows 2052 words": in bytes
abbrev pub scratch_size : ℕ
scratch_size = 48000

abbrev pub sections_size : ℕ
sections_size = 24052

abbrev pub rows_size : ℕ
rows_size = 8208
