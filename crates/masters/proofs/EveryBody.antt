-- Every body of a master run. In order: the preamble's verdict and the rows; what the pages start from. Assumes nothing.
use Rattle.std.specs.Prelude.{Ok, Err}
use Rattle.tokens.specs.Refusal.{refusal_at}
use Prim.Native.Nat.{ℕ, ◌+◌, ◌≤◌}
use native.Mathlib.Omega.{arith}
use mathlib.Core.Path.{◌≡◌, refl, sym, ap, ◌∙◌}
use mathlib.Core.List.{List, append-nil}
use lib.IntN.{pos}
use lib.ListN.{length, get_or, drop, replicate}
use lib.Seq.{slice, sets, drop-length}
use borrow.Author.Tests.{ne_eqb}
use Rattle.table.specs.Slots.{zeroed}
use Rattle.table.proofs.Stores.{front}
use Rattle.tokens.specs.declared.Refusal.TheVariants.{PreambleUnfinished}
use Rattle.tokens.specs.Refusal.{Outcome}
use Rattle.machine.specs.State.{State}
use Rattle.machine.specs.Limits.{scratch_size}
use Rattle.machine.specs.Step.{outcome}
use Rattle.machine.specs.Page.{preamble_end, preamble_of, preamble_result, result_of, result_at, row_bytes, rows_of, rows_from}
use Rattle.machine.specs.Promise.{accepted, unfinished, finished, over, run_answer, rows_leaves}
use Rattle.state.specs.declared.Registers.{Registers}
use Rattle.state.specs.Layout.{abs}
use Rattle.skeleton.specs.Spans.{Placed}
use Rattle.prints.specs.Ran.{Preambled, Ready, RanAll}
use Rattle.prints.proofs.Walking.{rows_long}

-- a table of just the size, cleared
pub clear_all : (w : List ℕ) → length w ≡ scratch_size → zeroed scratch_size w ≡ replicate scratch_size 0
unfolding zeroed
clear_all w e = rw (ap (λ (n : ℕ). drop n w) (sym e) ∙ drop-length w) (append-nil (replicate scratch_size 0))

module _ (s t : List ℕ) (bodies : List (List ℕ)) (a : ℕ) (w : List ℕ) (q : Registers) (l : Placed s t bodies) (p : Preambled (slice (get_or t 0 0) (get_or t 1 0) s) a w q) where
  pub ends : abs w q ≡ preamble_end a (preamble_of bodies)
  unfolding preamble_of
  ends = p.does ∙ ap (preamble_end a) (l.each 0 l.some).is

  verdict_is : (o : ℕ) → ((v : List ℕ) → o ≡ outcome (abs v q)) → outcome (preamble_end a (preamble_of bodies)) ≡ o
  verdict_is o f = sym (f w ∙ ap outcome ends)

  -- 12
  pub ran_out : (o : ℕ) → ((v : List ℕ) → o ≡ outcome (abs v q)) → o ≡ 3 → finished (pos a) bodies ≡ unfinished
  unfolding finished
  ran_out o f e = rw (verdict_is o f, e)

  pub ran_on : (o : ℕ) → ((v : List ℕ) → o ≡ outcome (abs v q)) → (o ≡ 3 → ⊥) → finished (pos a) bodies ≡ accepted bodies
  unfolding finished
  ran_on o f e = rw (verdict_is o f, ne_eqb o 3 e)

  first_row : (rows rows₁ : List ℕ) → ((v : List ℕ) → rows₁ ≡ sets rows 0 (row_bytes (result_of 0 (abs v q)))) → rows₁ ≡ sets rows 0 (rows_from a bodies 0 1)
  unfolding rows_from result_at preamble_result
  first_row rows rows₁ f = f w ∙ (rw (ends, append-nil (row_bytes (result_of 0 (preamble_end a (preamble_of bodies))))) refl)

  pub all_unfinished : (o : ℕ) (w' rows : List ℕ) (r : Outcome) → ((v : List ℕ) → o ≡ outcome (abs v q)) → o ≡ 3 → w' ≡ replicate scratch_size 0 → r ≡ Err (refusal_at PreambleUnfinished 0) → RanAll a bodies w' rows rows r
  unfolding run_answer rows_leaves
  all_unfinished o w' rows r f e c g = record { answer = rw (ran_out o f e) g; clear = c; rows_are = rw (ran_out o f e) refl }

  pub all_ran : (last o : ℕ) (w' rows rows₁ rows' : List ℕ) → length bodies ≡ last + 1 → 8208 ≤ length rows → ((v : List ℕ) → o ≡ outcome (abs v q)) → (o ≡ 3 → ⊥) → ((v : List ℕ) → rows₁ ≡ sets rows 0 (row_bytes (result_of 0 (abs v q))))
      → ((bodies : List (List ℕ)) (b : List ℕ) → Placed s t bodies → length bodies ≡ last + 1 → rows₁ ≡ sets b 0 (rows_from a bodies 0 1) → rows' ≡ sets b 0 (rows_from a bodies 0 (last + 1)))
      → w' ≡ replicate scratch_size 0 → RanAll a bodies w' rows rows' (Ok last)
  unfolding run_answer rows_leaves rows_of over
  all_ran last o w' rows rows₁ rows' m room f e d g c = record {
    answer = rw (ran_on o f e, m) (ap Ok (omega arith));
    clear = c;
    rows_are = rw (ran_on o f e, m) (g bodies rows l m (first_row rows rows₁ d) ∙ front rows (rows_from a bodies 0 (last + 1)) (omega (arith, rows_long a bodies 0 (last + 1), l.few)));
  }

-- what the pages start from
pub ready_of : (pre : List ℕ) (a : ℕ) (w : List ℕ) (q : Registers) → Preambled pre a w q → Ready pre a q.used w
ready_of pre a w q p = record { room = p.good.room; frame_kept = p.kept; cells_kept = ap (λ (s : State). s.cells) p.does; few = p.good.cells_fit }
