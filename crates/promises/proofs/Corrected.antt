-- A book that ran and a corrected one: what the first's run tells of the second's. In order: what an accepted verdict tells; what load
-- tells; the second's verdicts. Assumes nothing.
use Rattle.std.specs.Prelude.{Ok}
use Prim.Native.Nat.{ℕ, ◌+◌, ◌-◌, ◌≤◌, ◌<◌}
use native.Mathlib.Omega.{arith}
use mathlib.Core.Path.{◌≡◌, refl, ap, ◌∙◌}
use mathlib.Core.Bool.{Bool, true, false}
use mathlib.Core.List.{List}
use lib.Dec.{eqb, leb}
use lib.IntN.{ℤ, pos, nat_abs}
use lib.ListN.{length}
use borrow.Author.Tests.{le-leb, lt-ltb}
use Rattle.numbers.proofs.Cond.{by_test}
use Rattle.tokens.specs.Refusal.{Outcome}
use Rattle.tokens.specs.Format.{longest}
use Rattle.machine.specs.Limits.{scratch_size, rows_size, sections_size}
use Rattle.machine.specs.Skeleton.{Skeleton, sound, refused, skeleton_of}
use Rattle.machine.specs.Step.{outcome}
use Rattle.machine.specs.Page.{bodies_of, preamble_of, preamble_end}
use Rattle.machine.specs.Promise.{Verdict, accepted, unfinished, halted, on_sound, allowed, admitted, finished, pages_in, load_answer, Loads, run_verdict, run_answer, Runs, paged, reprint_verdict, reprint_answer, Reprints}
use Rattle.machine.proofs.Comments.{never}
use Rattle.machine.proofs.Verdicts.{bodies_in, bodies_by}
use Rattle.machine.proofs.Skeletons.{Fits, skeleton_fits}
use Rattle.skeleton.proofs.PageTurns.{length_bodies}

-- ---- what an accepted verdict tells

admitted_tells : (s : List ℕ) (a : ℤ) (enough : Bool) (rest : List (List ℕ) → Verdict) (b : List (List ℕ)) → admitted s a enough rest ≡ accepted b
    → (allowed a ≡ true) × (on_sound s (skeleton_of s) rest ≡ accepted b)
unfolding admitted
admitted_tells s a enough rest b h =
    by_test (leb (length s) longest)
    (λ e. by_test enough
    (λ f. by_test (allowed a) (λ g. (g, rw (e, f, g) at h)) (λ g. never (let z = rw (e, f, g) at h in cc)))
    (λ f. never (let z = rw (e, f) at h in cc)))
    (λ e. never (let z = rw e at h in cc))

sound_tells : (s : List ℕ) (x : Skeleton) (a : ℤ) (b : List (List ℕ)) → on_sound s x (finished a) ≡ accepted b → eqb (outcome (preamble_end (nat_abs a) (preamble_of (bodies_by s x)))) 3 ≡ false
unfolding on_sound finished bodies_by
sound_tells s (sound spans) a b h =
    by_test (eqb (outcome (preamble_end (nat_abs a) (preamble_of (bodies_of s spans)))) 3) (λ e. never (let z = rw e at h in cc)) (λ e. e)
sound_tells s (refused w p) a b h = never (cc)

-- a run that is done had an allowance in range, and its preamble ended
pub done_tells : {s : List ℕ} {a : ℤ} {scratch scratch' rows rows' : List ℕ} {c : ℕ} → Runs s a scratch scratch' rows rows' (Ok c)
    → (allowed a ≡ true) × (eqb (outcome (preamble_end (nat_abs a) (preamble_of (bodies_in s)))) 3 ≡ false)
unfolding run_verdict run_answer bodies_in
done_tells {s} {a} {scratch} {scratch'} {rows} {rows'} {c} r = by (run_verdict s a scratch rows) refl r.answer
  where
    by : (v : Verdict) → run_verdict s a scratch rows ≡ v → Ok c ≡ run_answer v
        → (allowed a ≡ true) × (eqb (outcome (preamble_end (nat_abs a) (preamble_of (bodies_in s)))) 3 ≡ false)
    by (accepted b) e f = let g = admitted_tells s a _ (finished a) b e in (g.0, sound_tells s (skeleton_of s) a b g.1)
    by unfinished e f = never (cc)
    by (halted w p) e f = never (cc)

-- ---- what load tells

pub load_tells : {s : List ℕ} {c : ℕ} → Loads s (Ok c)
    → (leb (length s) longest ≡ true) × (length (bodies_in s) ≡ c + 1) × ((rest : List (List ℕ) → Verdict) → on_sound s (skeleton_of s) rest ≡ rest (bodies_in s))
unfolding load_answer bodies_in pages_in bodies_by on_sound
load_tells {s} {c} l =
    by_test (leb (length s) longest) (λ e. by e (skeleton_of s) (skeleton_fits s) (rw e at l.answer)) (λ e. never (let z = rw e at l.answer in cc))
  where
    by : leb (length s) longest ≡ true → (x : Skeleton) → Fits x → Ok c ≡ pages_in x
        → (leb (length s) longest ≡ true) × (length (bodies_by s x) ≡ c + 1) × ((rest : List (List ℕ) → Verdict) → on_sound s x rest ≡ rest (bodies_by s x))
    by e (sound spans) h f = let z : c ≡ length spans - 1 = cc in (e, omega (arith, length_bodies s spans, h.0), λ rest. refl)
    by e (refused w p) h f = never (cc)

-- ---- the second's verdicts

module _ (s : List ℕ) (a : ℤ) (c : ℕ) (l : Loads s (Ok c)) (f : allowed a ≡ true) where
  judged : (enough : Bool) (rest : List (List ℕ) → Verdict) → enough ≡ true → admitted s a enough rest ≡ rest (bodies_in s)
  unfolding admitted
  judged enough rest e = let g = load_tells l in rw (g.0, e, f) (g.2 rest)

  module _ (on : eqb (outcome (preamble_end (nat_abs a) (preamble_of (bodies_in s)))) 3 ≡ false) where
    ended : finished a (bodies_in s) ≡ accepted (bodies_in s)
    unfolding finished
    ended = rw on

    pub runs_done : {scratch scratch' rows rows' : List ℕ} {r : Outcome} → Runs s a scratch scratch' rows rows' r → scratch_size ≤ length scratch
        → rows_size ≤ length rows → r ≡ Ok c
    unfolding run_verdict run_answer
    runs_done {scratch} {scratch'} {rows} {rows'} {r} p x y =
        let v : run_verdict s a scratch rows ≡ accepted (bodies_in s) = judged _ (finished a) (rw (le-leb scratch_size (length scratch) x, le-leb rows_size (length rows) y)) ∙ ended in
        (rw v at p.answer) ∙ ap Ok (omega (arith, (load_tells l).1))

    pub reprints_done : {k : ℕ} {scratch scratch' rows rows' sections sections' : List ℕ} {r : Outcome} → Reprints s a (pos k) scratch scratch' rows rows' sections sections' r
        → k < length (bodies_in s) → scratch_size ≤ length scratch → rows_size ≤ length rows → sections_size ≤ length sections → r ≡ Ok k
    unfolding reprint_verdict reprint_answer paged
    reprints_done {k} {scratch} {scratch'} {rows} {rows'} {sections} {sections'} {r} p h x y z =
        let v : reprint_verdict s a (pos k) scratch rows sections ≡ accepted (bodies_in s) =
        judged _ (paged a (pos k)) (rw (le-leb scratch_size (length scratch) x, le-leb rows_size (length rows) y, le-leb sections_size (length sections) z)) ∙
        (rw (le-leb 0 k (omega arith), lt-ltb k (length (bodies_in s)) h) ended) in
        (rw v at p.answer)
