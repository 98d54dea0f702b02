-- One body of a master reprinted: its result. Assumes nothing.
use Rattle.std.specs.Prelude.{Ok, Err}
use Rattle.tokens.specs.Refusal.{refusal_at}
use Prim.Native.Nat.{ℕ, ◌+◌, ◌*◌, ◌<◌, ◌≤◌}
use native.Mathlib.Omega.{arith}
use mathlib.Core.Path.{◌≡◌, refl, ◌∙◌}
use mathlib.Core.List.{List, append_assoc}
use lib.ListN.{length, get_or, take, drop, replicate}
use lib.Seq.{slice, sets, sets-eq}
use Rattle.tokens.specs.declared.Refusal.TheVariants.{PreambleUnfinished}
use Rattle.tokens.specs.Refusal.{Outcome}
use Rattle.machine.specs.Limits.{scratch_size}
use Rattle.machine.specs.Step.{outcome}
use Rattle.machine.specs.Page.{Result, preamble_result, result_of, result_at, row_bytes, section_bytes}
use Rattle.machine.specs.Promise.{over, spliced, reprint_answer, row_leaves, sections_leaves}
use Rattle.state.specs.declared.Registers.{Registers}
use Rattle.state.specs.Layout.{abs}
use Rattle.skeleton.specs.Spans.{Placed}
use Rattle.prints.specs.Ran.{Preambled, Paged, Shown, Reprinted}
use Rattle.prints.proofs.Walking.{row_long, result_at_lem}
use Rattle.prints.proofs.Paging.{result_is}
use Rattle.masters.proofs.EveryBody.{ends, ran_out, ran_on, ready_of}

splices : (at : ℕ) (b l : List ℕ) → at + length b ≤ length l → sets l at b ≡ spliced at b l
unfolding spliced
splices at b l h = sets-eq b l at h ∙ append_assoc (take at l) b (drop (at + length b) l)

-- ---- the result of a body

module _ (s t : List ℕ) (bodies : List (List ℕ)) (a : ℕ) (w : List ℕ) (q : Registers) (l : Placed s t bodies) (p : Preambled (slice (get_or t 0 0) (get_or t 1 0) s) a w q) where
  -- the preamble's
  pub shown_first : {rows rows' sections sections' : List ℕ} (page : ℕ) → page ≡ 0 → Shown (result_of 0 (abs w q)) 0 rows rows' sections sections' → Shown (result_at a bodies page) page rows rows' sections sections'
  unfolding result_at preamble_result
  shown_first page e x = rw (e, ← (ends s t bodies a w q l p)) x

  -- a page's
  pub shown_page : {rows rows' sections sections' : List ℕ} (page : ℕ) (w' : List ℕ) (r : Registers) → 1 ≤ page → page < length bodies
      → Paged (slice (get_or t 0 0) (get_or t 1 0) s) (slice (get_or t (2 * page) 0) (get_or t (2 * page + 1) 0) s) q.used a w w' r
      → Shown (result_of q.used (abs w' r)) page rows rows' sections sections' → Shown (result_at a bodies page) page rows rows' sections sections'
  shown_page page w' r h k g x =
      rw (result_at_lem s t a page bodies h k l, ← (result_is (slice (get_or t 0 0) (get_or t 1 0) s) (slice (get_or t (2 * page) 0) (get_or t (2 * page + 1) 0) s) a q.used w w' r (ready_of _ a w q p) g)) x

  pub one_unfinished : (page o : ℕ) (w' rows sections : List ℕ) (r : Outcome) → ((v : List ℕ) → o ≡ outcome (abs v q)) → o ≡ 3 → w' ≡ replicate scratch_size 0 → r ≡ Err (refusal_at PreambleUnfinished 0)
      → Reprinted a page bodies w' rows rows sections sections r
  unfolding reprint_answer row_leaves sections_leaves
  one_unfinished page o w' rows sections r f e c g =
      let u = ran_out s t bodies a w q l p o f e in
      record { answer = rw u g; clear = c; rows_are = rw u refl; sections_are = rw u refl }

  pub one_ran : (page o : ℕ) (w' rows rows' sections sections' : List ℕ) → page < length bodies → 8208 ≤ length rows → ((v : List ℕ) → o ≡ outcome (abs v q)) → (o ≡ 3 → ⊥) → w' ≡ replicate scratch_size 0
      → ((bodies : List (List ℕ)) → Placed s t bodies → page < length bodies → Shown (result_at a bodies page) page rows rows' sections sections') → Reprinted a page bodies w' rows rows' sections sections' (Ok page)
  unfolding reprint_answer row_leaves sections_leaves
  one_ran page o w' rows rows' sections sections' h room f e c g =
      let u = ran_on s t bodies a w q l p o f e in
      let x = g bodies l h in
      let fits : 16 * page + length (row_bytes (result_at a bodies page)) ≤ length rows = omega (arith, row_long (result_at a bodies page), l.few) in
      record { answer = rw u refl; clear = c; rows_are = rw u (x.row ∙ splices (16 * page) (row_bytes (result_at a bodies page)) rows fits); sections_are = rw u x.sections_are }

pub shows : (x : Result) (page : ℕ) (rows rows' sections sections' : List ℕ) → rows' ≡ sets rows (16 * page) (row_bytes x) → sections' ≡ over (section_bytes x) sections → Shown x page rows rows' sections sections'
shows x page rows rows' sections sections' e f = record { row = e; sections_are = f }
