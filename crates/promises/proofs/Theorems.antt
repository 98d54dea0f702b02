-- The customer's theorem, over the promises of `load`, `run` and `reprint`; the theorems that it stands on are those of `machine`.
-- `bodies_in s` are the bytes of the master's bodies, the preamble's first. Work: Corrected. Assumes nothing.
use Rattle.std.specs.Prelude.{Ok}
use Prim.Native.Nat.{ℕ, ◌≤◌}
use native.Mathlib.Omega.{arith}
use mathlib.Core.Path.{◌≡◌}
use mathlib.Core.Logic.{◌≢◌}
use mathlib.Core.Bool.{false}
use mathlib.Core.List.{List, []}
use lib.Dec.{eqb}
use lib.IntN.{ℤ, pos, nat_abs}
use lib.ListN.{length, get_or}
use Rattle.tokens.specs.Refusal.{Outcome}
use Rattle.machine.specs.Limits.{scratch_size, sections_size}
use Rattle.machine.specs.Step.{outcome}
use Rattle.machine.specs.Page.{preamble_end, preamble_of}
use Rattle.machine.specs.Promise.{Loads, Runs, Reprints}
use Rattle.machine.proofs.Verdicts.{bodies_in, ran}
use Rattle.machine.proofs.Theorems.{reprint_rows, run_rows_rest}
use Rattle.promises.proofs.Corrected.{done_tells, load_tells, runs_done, reprints_done}

-- THEOREM (demand 3): the customer's page 40. A book has run in the table `rows`, and the rows that it left are kept. The corrected master
-- loads with as many pages, its preamble has the same bytes, and so has every page but page k. Then, under the same allowance, with scratch
-- and sections long enough, the reprint of page k over the kept rows is done, a run of the whole corrected book in `rows` as it was is done,
-- and the two leave the same rows, every byte.
pub corrected_page : {s₁ s₂ : List ℕ} {a : ℤ} {c k : ℕ} {scr₁ scr₁' scr₂ scr₂' scr₃ scr₃' rows rows₁ rows₂ rows₃ sec sec' : List ℕ} {r₂ r₃ : Outcome}
    → Runs s₁ a scr₁ scr₁' rows rows₁ (Ok c) → Loads s₂ (Ok c)
    → get_or (bodies_in s₁) 0 [] ≡ get_or (bodies_in s₂) 0 [] → ((j : ℕ) → j ≢ k → get_or (bodies_in s₁) j [] ≡ get_or (bodies_in s₂) j []) → k ≤ c
    → scratch_size ≤ length scr₂ → scratch_size ≤ length scr₃ → sections_size ≤ length sec
    → Runs s₂ a scr₂ scr₂' rows rows₂ r₂ → Reprints s₂ a (pos k) scr₃ scr₃' rows₁ rows₃ sec sec' r₃
    → (r₂ ≡ Ok c) × (r₃ ≡ Ok k) × (rows₃ ≡ rows₂)
unfolding preamble_of
corrected_page {s₁} {s₂} {a} {c} {k} {scr₁} {scr₁'} {scr₂} {scr₂'} {scr₃} {scr₃'} {rows} {rows₁} {rows₂} {rows₃} {sec} {sec'} {r₂} {r₃} p l e f h x y z q r =
    (ran_too, reprinted_too, reprint_rows p (rw ran_too at q) (rw reprinted_too at r) e f)
  where
    on : eqb (outcome (preamble_end (nat_abs a) (preamble_of (bodies_in s₂)))) 3 ≡ false
    on = rw (← e) (done_tells p).1

    ran_too : r₂ ≡ Ok c
    ran_too = runs_done s₂ a c l (done_tells p).0 on q x (ran p).long

    reprinted_too : r₃ ≡ Ok k
    reprinted_too = reprints_done s₂ a c l (done_tells p).0 on r (omega (arith, (load_tells l).1)) y (omega (arith, (run_rows_rest p).0, (ran p).long)) z
