-- A page run and its row written. Assumes nothing.
use Prim.Native.Nat.{ℕ, ◌+◌, ◌*◌, ◌-◌, ◌≤◌}
use native.Mathlib.Omega.{arith}
use mathlib.Core.Path.{◌≡◌, refl, sym, ap, ◌∙◌}
use mathlib.Core.List.{List}
use lib.ListN.{length, take, drop}
use lib.Seq.{sets, slice}
use Rattle.table.specs.Slots.{slots}
use Rattle.tokens.proofs.Summaries.{take_drop}
use Rattle.machine.specs.Page.{preamble_end, page_start, page_end, result_of, page_result, row_bytes}
use Rattle.machine.specs.Readable.{Whole}
use Rattle.state.specs.declared.Registers.{Registers}
use Rattle.state.specs.Layout.{abs}
use Rattle.state.proofs.Parts.{length_values}
use Rattle.prints.specs.Ran.{Preambled, Paged, Ready, Rowed}

module _ (pre body : List ℕ) (allowance used : ℕ) (w w' : List ℕ) (q : Registers) (r : Ready pre allowance used w) (p : Paged pre body used allowance w w' q) where
  ends : abs w' q ≡ page_end allowance pre body
  unfolding page_end page_start
  ends = p.does ∙ (rw (r.frame_kept, r.cells_kept) refl)

  as_many : length (preamble_end allowance pre).cells ≡ used
  as_many = ap length (sym r.cells_kept) ∙ length_values (slots w) 728 used

  pub result_is : result_of used (abs w' q) ≡ page_result allowance pre body
  unfolding page_result
  result_is = rw (ends, as_many) refl

  pub page_rowed : (n : ℕ) (rows rows' : List ℕ) → ((v : List ℕ) → rows' ≡ sets rows (16 * n) (row_bytes (result_of used (abs v q)))) → Rowed pre body allowance used n w' rows rows'
  page_rowed n rows rows' f = record {
    ready = record { room = p.good.room; frame_kept = p.keeps ∙ r.frame_kept; cells_kept = p.cells ∙ r.cells_kept; few = r.few };
    row = f w' ∙ ap (λ x. sets rows (16 * n) (row_bytes x)) result_is;
  }

-- a part of the master as the code lends it
part : (s : List ℕ) (a e : ℕ) → a ≤ e → take (e - a) (drop a s) ≡ slice a e s
part s a e h = let z : a + (e - a) ≡ e = omega arith in take_drop (e - a) a s ∙ (rw z refl)

pub page_of_parts : (s : List ℕ) (a e b f used allowance : ℕ) (w w' : List ℕ) (q : Registers) → a ≤ e → b ≤ f → Paged (take (e - a) (drop a s)) (take (f - b) (drop b s)) used allowance w w' q → Paged (slice a e s) (slice b f s) used allowance w w' q
page_of_parts s a e b f used allowance w w' q h k p = rw (← (part s a e h), ← (part s b f k)) p

pub preamble_of_part : (s : List ℕ) (a e allowance : ℕ) (w' : List ℕ) (q : Registers) → a ≤ e → Preambled (take (e - a) (drop a s)) allowance w' q → Preambled (slice a e s) allowance w' q
preamble_of_part s a e allowance w' q h p = rw (← (part s a e h)) p

pub whole_part : (s : List ℕ) (a e : ℕ) → a ≤ e → Whole (slice a e s) → Whole (take (e - a) (drop a s))
whole_part s a e h w = rw (part s a e h) w

pub ready_part : (s : List ℕ) (a e allowance used : ℕ) (w : List ℕ) → a ≤ e → Ready (slice a e s) allowance used w → Ready (take (e - a) (drop a s)) allowance used w
ready_part s a e allowance used w h r = rw (part s a e h) r
