-- Every body of a master run. In order: the promise of `run`; what was judged before. Assumes nothing.
use Rattle.std.specs.Prelude.{Ok, Err}
use Rattle.tokens.specs.Refusal.{refusal_at}
use Prim.Native.Nat.{ℕ, ◌+◌, ◌≤◌}
use native.Mathlib.Omega.{arith}
use mathlib.Core.Path.{◌≡◌, refl, sym, ap, ◌∙◌}
use mathlib.Core.Bool.{Bool, true, ◌&&◌}
use mathlib.Core.List.{List, ◌++◌}
use lib.Dec.{eqb, leb}
use lib.IntN.{ℤ, pos, nat_abs}
use lib.Signed.{le_z}
use lib.ListN.{length, drop, replicate, length-replicate}
use borrow.Author.Tests.{leb-true}
use Rattle.numbers.proofs.Cond.{either, both}
use Rattle.tokens.specs.declared.Refusal.{Refusal}
use Rattle.tokens.specs.Refusal.{Outcome}
use Rattle.machine.specs.Limits.{most_steps, scratch_size, rows_size}
use Rattle.machine.specs.Step.{outcome}
use Rattle.machine.specs.Page.{preamble_end, preamble_of}
use Rattle.machine.specs.Promise.{accepted, unfinished, halted, finished, over, cleared, scratch_leaves, run_verdict, run_answer, rows_leaves, Runs}
use Rattle.skeleton.specs.Spans.{Placed}
use Rattle.prints.specs.Ran.{Holds, RanAll}
use Rattle.admission.specs.Judged.{Goes, Admitted}
use Rattle.admission.proofs.Admitting.{natural_is, steps_fit}

-- ---- the promise of `run`

-- scratch is clear, whatever the verdict of an admitted master
pub scratch_clear : (a : ℕ) (bodies : List (List ℕ)) (scratch w' : List ℕ) → w' ≡ replicate scratch_size 0 → w' ++ drop scratch_size scratch ≡ scratch_leaves (finished (pos a) bodies) scratch
unfolding finished scratch_leaves cleared over
scratch_clear a bodies scratch w' e =
    either (λ v. w' ++ drop scratch_size scratch ≡ scratch_leaves v scratch) (eqb (outcome (preamble_end a (preamble_of bodies))) 3) unfinished (accepted bodies) (λ _. clear) (λ _. clear)
  where
    zeros : length {A = ℕ} (replicate scratch_size 0) ≡ scratch_size
    zeros = length-replicate {A = ℕ} scratch_size 0

    clear : w' ++ drop scratch_size scratch ≡ cleared scratch
    clear = ap (λ (l : List ℕ). l ++ drop scratch_size scratch) e ∙ ap (λ (n : ℕ). replicate scratch_size 0 ++ drop n scratch) (sym zeros)

module _ (s : List ℕ) (z : ℤ) (scratch rows : List ℕ) where
  abbrev enough : Bool
  enough = leb scratch_size (length scratch) && leb rows_size (length rows)

  pub run_halts : (t : List ℕ) (w : Refusal) (p : ℕ) (r : Outcome) → Admitted s z enough t (Err (refusal_at w p)) → r ≡ Err (refusal_at w p) → Runs s z scratch scratch rows rows r
  unfolding run_verdict run_answer scratch_leaves rows_leaves
  run_halts t w p r d e = let h : run_verdict s z scratch rows ≡ halted w p = d.halts w p refl (finished z) in
      record { answer = rw h e; scratch_left = rw h refl; rows_left = rw h refl }

  pub run_done : (t : List ℕ) (last a : ℕ) (w' rows' : List ℕ) (r : Outcome) → Goes s z enough t last → a ≡ nat_abs z
      → ((bodies : List (List ℕ)) → Placed s t bodies → length bodies ≡ last + 1 → RanAll a bodies w' rows rows' r) → Runs s z scratch (w' ++ drop scratch_size scratch) rows rows' r
  unfolding run_verdict
  run_done t last a w' rows' r g e f =
      let x = f g.bodies g.placed g.many in
      let n : pos a ≡ z = ap pos e ∙ sym (natural_is z (steps_fit z g.steps).0) in
      let h : run_verdict s z scratch rows ≡ finished (pos a) g.bodies = g.verdict (finished z) ∙ ap (λ (y : ℤ). finished y g.bodies) (sym n) in
      record { answer = rw h x.answer; scratch_left = rw h (scratch_clear a g.bodies scratch w' x.clear); rows_left = rw (h, ← n) x.rows_are }

-- ---- what `admit` tells its callers, of an allowance x that is z in memory

pub came : {s t : List ℕ} {x z : ℤ} {b c : Bool} {r : Outcome} {n : ℕ} → x ≡ z → b ≡ c → Admitted s x b t r → r ≡ Ok n → Goes s z c t n
came e f d g = rw (e, f) at (d.goes _ g)

pub stays : {s t : List ℕ} {x z : ℤ} {b c : Bool} {r : Outcome} {w : Refusal} {p : ℕ} → x ≡ z → b ≡ c → Admitted s x b t r → r ≡ Err (refusal_at w p) → Admitted s z c t (Err (refusal_at w p))
stays e f d g = rw (e, f, g) at d

module _ {s t : List ℕ} {z : ℤ} {b : Bool} {last : ℕ} (g : Goes s z b t last) where
  pub laid : 1026 ≤ length t → Holds s t last
  laid l = record { wide = l; bodies = g.bodies; placed = g.placed; there = omega (arith, g.many); whole = g.whole }

  pub few_steps : {x : ℤ} {a : ℕ} → x ≡ z → a ≡ nat_abs x → a ≤ most_steps
  few_steps e f = rw (f, e) (steps_fit z g.steps).1

  pub some_steps : {x : ℤ} → x ≡ z → le_z (pos 0) x ≡ true
  some_steps e = rw e (steps_fit z g.steps).0

pub run_room : {s t : List ℕ} {z : ℤ} {last : ℕ} (scratch rows : ℕ) → Goes s z (leb scratch_size scratch && leb rows_size rows) t last → (scratch_size ≤ scratch) × (rows_size ≤ rows)
run_room scratch rows g = let x = both (leb scratch_size scratch) (leb rows_size rows) g.tables in (leb-true scratch_size scratch x.0, leb-true rows_size rows x.1)
