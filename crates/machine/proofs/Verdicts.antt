-- The verdicts there are on a master, and what each answer of `load`, `run` and `reprint` says of bodies and tables. Assumes nothing.
use Rattle.std.specs.Prelude.{Ok, Err}
use Prim.Native.Nat.{ℕ, suc, ◌+◌, ◌-◌, ◌*◌, ◌≤◌, ◌<◌}
use native.Mathlib.Omega.{arith}
use mathlib.Core.Path.{◌≡◌, refl, sym, ap, ◌∙◌}
use mathlib.Core.Logic.{◌≢◌, ◌⊎◌, inl, inr}
use mathlib.Core.Bool.{Bool, true, ◌&&◌}
use mathlib.Core.List.{List, []}
use lib.Dec.{eqb, leb, ltb}
use lib.IntN.{ℤ, pos, negsuc, nat_abs}
use lib.Signed.{le_z, lt_z}
use lib.ListN.{length, length-map}
use borrow.Author.Tests.{leb-true, ltb-true, le-leb}
use Rattle.tokens.specs.declared.Refusal.{Refusal}
use Rattle.tokens.specs.declared.Refusal.TheVariants.{TooLong, TableTooShort, PreambleUnfinished, NoSuchPage, BadAllowance}
use Rattle.tokens.specs.declared.Refused.{Refused}
use Rattle.tokens.specs.Refusal.{Outcome, number_of, refusal_at}
use Rattle.tokens.specs.Format.{longest}
use Rattle.numbers.proofs.Cond.{either, both, by_test}
use Rattle.machine.specs.Limits.{most_pages, most_steps, scratch_size, rows_size, sections_size}
use Rattle.machine.specs.Skeleton.{Skeleton, sound, refused, skeleton_of}
use Rattle.machine.specs.Step.{outcome}
use Rattle.machine.specs.Page.{bodies_of, preamble_of, preamble_end, result_at, row_bytes, rows_of, section_bytes}
use Rattle.machine.specs.Promise.{Verdict, accepted, unfinished, halted, on_sound, allowed, admitted, finished, over, spliced, cleared, scratch_leaves, pages_in, load_answer, run_verdict, run_answer, rows_leaves, Runs, paged, reprint_verdict, reprint_answer, row_leaves, sections_leaves, Reprints}
use Rattle.machine.proofs.Skeletons.{Fits, skeleton_fits}

-- ---- the bodies of a master

unfoldable pub bodies_by : List ℕ → Skeleton → List (List ℕ)
bodies_by s (sound spans) = bodies_of s spans
bodies_by s (refused w p) = []

-- the preamble's and the pages' bytes; none where the master is refused
unfoldable pub bodies_in : List ℕ → List (List ℕ)
bodies_in s = bodies_by s (skeleton_of s)

most_by : (s : List ℕ) (k : Skeleton) → Fits k → length (bodies_by s k) ≤ most_pages + 1
unfolding bodies_by bodies_of
most_by s (sound spans) h = simp length-map h.1
most_by s (refused w p) h = omega arith

-- a master has at most 513 bodies, so its rows fit
pub bodies_most : (s : List ℕ) → length (bodies_in s) ≤ most_pages + 1
unfolding bodies_in
bodies_most s = most_by s (skeleton_of s) (skeleton_fits s)

-- ---- verdicts

-- the verdicts on the master s where page n is asked for; `enough`: its tables are long enough
pub data Comes (s : List ℕ) (enough : Bool) (n : ℕ) : Verdict → Type 0 where
  runs : enough ≡ true → n < length (bodies_in s) → Comes s enough n (accepted (bodies_in s))
  waits : Comes s enough n unfinished
  stops : {w : Refusal} {p : ℕ} → w ≢ PreambleUnfinished → Comes s enough n (halted w p)

-- a refusal with another number
other : (w : Refusal) → number_of w ≢ 12 → w ≢ PreambleUnfinished
other w h e = h (ap number_of e)

module _ (s : List ℕ) (enough : Bool) (n : ℕ) where
  sound_comes : (rest : List (List ℕ) → Verdict) → (enough ≡ true → 1 ≤ length (bodies_in s) → Comes s enough n (rest (bodies_in s)))
      → enough ≡ true → Comes s enough n (on_sound s (skeleton_of s) rest)
  unfolding bodies_in bodies_by bodies_of on_sound
  sound_comes rest f e = by (skeleton_of s) refl (skeleton_fits s)
    where
      by : (k : Skeleton) → skeleton_of s ≡ k → Fits k → Comes s enough n (on_sound s k rest)
      by (sound spans) q h =
          let b : bodies_in s ≡ bodies_of s spans = rw q in
          rw (← b) (f e (rw b (simp length-map h.0)))
      by (refused w p) q h = stops (other w (λ z. omega arith))

  admitted_comes : (a : ℤ) (rest : List (List ℕ) → Verdict) → (enough ≡ true → 1 ≤ length (bodies_in s) → Comes s enough n (rest (bodies_in s)))
      → Comes s enough n (admitted s a enough rest)
  unfolding admitted
  admitted_comes a rest f =
      either (Comes s enough n) (leb (length s) longest) _ _
      (λ _. either (Comes s enough n) enough _ _
      (λ e. either (Comes s enough n) (allowed a) _ _ (λ _. sound_comes rest f e) (λ _. stops (other BadAllowance (λ q. omega arith))))
      (λ _. stops (other TableTooShort (λ q. omega arith))))
      (λ _. stops (other TooLong (λ q. omega arith)))

  finished_comes : (a : ℤ) → enough ≡ true → n < length (bodies_in s) → Comes s enough n (finished a (bodies_in s))
  unfolding finished
  finished_comes a e h =
      either (Comes s enough n) (eqb (outcome (preamble_end (nat_abs a) (preamble_of (bodies_in s)))) 3) unfinished (accepted (bodies_in s))
      (λ _. waits) (λ _. runs e h)

pub run_comes : (s : List ℕ) (a : ℤ) (scratch rows : List ℕ)
    → Comes s (leb scratch_size (length scratch) && leb rows_size (length rows)) 0 (run_verdict s a scratch rows)
unfolding run_verdict
run_comes s a scratch rows = admitted_comes s _ 0 a (finished a) (λ e h. finished_comes s _ 0 a e (omega arith))

paged_comes : (s : List ℕ) (enough : Bool) (a page : ℤ) → enough ≡ true → Comes s enough (nat_abs page) (paged a page (bodies_in s))
unfolding paged
paged_comes s enough a (pos k) e =
    either (Comes s enough k) (le_z (pos 0) (pos k) && lt_z (pos k) (pos (length (bodies_in s)))) _ _
    (λ h. finished_comes s enough k a e (ltb-true k (length (bodies_in s)) (both (leb 0 k) (ltb k (length (bodies_in s))) h).1))
    (λ _. stops (other NoSuchPage (λ q. omega arith)))
paged_comes s enough a (negsuc k) e = stops (other NoSuchPage (λ q. omega arith))

pub reprint_comes : (s : List ℕ) (a page : ℤ) (scratch rows sections : List ℕ)
    → Comes s (leb scratch_size (length scratch) && (leb rows_size (length rows) && leb sections_size (length sections))) (nat_abs page) (reprint_verdict s a page scratch rows sections)
unfolding reprint_verdict
reprint_comes s a page scratch rows sections = admitted_comes s _ (nat_abs page) a (paged a page) (λ e h. paged_comes s _ a page e)

-- ---- run

-- what an accepted run says
pub record Ran (s : List ℕ) (a : ℤ) (scratch scratch' rows rows' : List ℕ) (c : ℕ) : Type 0 where
  pub count : length (bodies_in s) ≡ suc c
  pub long : rows_size ≤ length rows
  pub scratch_is : scratch' ≡ cleared scratch
  pub rows_are : rows' ≡ over (rows_of (nat_abs a) (bodies_in s)) rows

-- one answer has one refusal
same_why : {w u : Refusal} {p q : ℕ} → ◌≡◌ {A = Outcome} (Err (refusal_at w p)) (Err (refusal_at u q)) → w ≡ u
same_why {w} {u} {p} {q} e = let f : refusal_at w p ≡ refusal_at u q = cc in ap (λ (x : Refused). x.refusal) f

-- what a refusal says of the scratch
abbrev pub Left : Refusal → List ℕ → List ℕ → Type 0
Left w scratch scratch' = (w ≢ PreambleUnfinished → scratch' ≡ scratch) × (w ≡ PreambleUnfinished → scratch' ≡ cleared scratch)

module _ (s : List ℕ) (a : ℤ) (scratch scratch' rows rows' : List ℕ) where
  ran_by : (c : ℕ) (v : Verdict) → Comes s (leb scratch_size (length scratch) && leb rows_size (length rows)) 0 v
      → Ok c ≡ run_answer v → scratch' ≡ scratch_leaves v scratch → rows' ≡ rows_leaves a v rows → Ran s a scratch scratch' rows rows' c
  unfolding run_answer scratch_leaves rows_leaves
  ran_by c _ (runs e h) q x y =
      let n : c ≡ length (bodies_in s) - 1 = cc in
      let l = both (leb scratch_size (length scratch)) (leb rows_size (length rows)) e in
      record { count = omega arith; long = leb-true rows_size (length rows) l.1; scratch_is = x; rows_are = y }
  ran_by c _ waits q x y = absurd (let z : ◌≡◌ {A = ℕ} 0 1 = cc in omega arith)
  ran_by c _ (stops h) q x y = absurd (let z : ◌≡◌ {A = ℕ} 0 1 = cc in omega arith)

  kept_by : (w : Refusal) (p : ℕ) (v : Verdict) → Comes s (leb scratch_size (length scratch) && leb rows_size (length rows)) 0 v
      → Err (refusal_at w p) ≡ run_answer v → scratch' ≡ scratch_leaves v scratch → rows' ≡ rows_leaves a v rows → (rows' ≡ rows) × Left w scratch scratch'
  unfolding run_answer scratch_leaves rows_leaves
  kept_by w p _ (runs e h) q x y = absurd (let z : ◌≡◌ {A = ℕ} 0 1 = cc in omega arith)
  kept_by w p _ waits q x y = let z : w ≡ PreambleUnfinished = same_why q in (y, ((λ h. absurd (h z)), λ _. x))
  kept_by w p _ (stops {w = u} h) q x y = let z : w ≡ u = same_why q in (y, ((λ _. x), λ e. absurd (h (sym z ∙ e))))

pub ran : {s : List ℕ} {a : ℤ} {scratch scratch' rows rows' : List ℕ} {c : ℕ} → Runs s a scratch scratch' rows rows' (Ok c)
    → Ran s a scratch scratch' rows rows' c
ran {s} {a} {scratch} {scratch'} {rows} {rows'} {c} r =
    ran_by s a scratch scratch' rows rows' c (run_verdict s a scratch rows) (run_comes s a scratch rows) r.answer r.scratch_left r.rows_left

pub run_refused : {s : List ℕ} {a : ℤ} {scratch scratch' rows rows' : List ℕ} {w : Refusal} {p : ℕ}
    → Runs s a scratch scratch' rows rows' (Err (refusal_at w p))
    → (rows' ≡ rows) × Left w scratch scratch'
run_refused {s} {a} {scratch} {scratch'} {rows} {rows'} {w} {p} r =
    kept_by s a scratch scratch' rows rows' w p (run_verdict s a scratch rows) (run_comes s a scratch rows) r.answer r.scratch_left r.rows_left

-- ---- reprint

-- what an accepted reprint says
pub record Reprinted (s : List ℕ) (a : ℤ) (k : ℕ) (scratch scratch' rows rows' sections sections' : List ℕ) : Type 0 where
  pub exists : k < length (bodies_in s)
  pub long : rows_size ≤ length rows
  pub scratch_is : scratch' ≡ cleared scratch
  pub rows_are : rows' ≡ spliced (16 * k) (row_bytes (result_at (nat_abs a) (bodies_in s) k)) rows
  pub sections_are : sections' ≡ over (section_bytes (result_at (nat_abs a) (bodies_in s) k)) sections

module _ (s : List ℕ) (a page : ℤ) (scratch scratch' rows rows' sections sections' : List ℕ) where
  abbrev lent : Bool
  lent = leb scratch_size (length scratch) && (leb rows_size (length rows) && leb sections_size (length sections))

  reprinted_by : (k : ℕ) (v : Verdict) → Comes s lent (nat_abs page) v → Ok k ≡ reprint_answer page v
      → scratch' ≡ scratch_leaves v scratch → rows' ≡ row_leaves a page v rows → sections' ≡ sections_leaves a page v sections
      → Reprinted s a (nat_abs page) scratch scratch' rows rows' sections sections'
  unfolding reprint_answer scratch_leaves row_leaves sections_leaves
  reprinted_by k _ (runs e h) q x y z =
      let l = both (leb scratch_size (length scratch)) (leb rows_size (length rows) && leb sections_size (length sections)) e in
      let m = both (leb rows_size (length rows)) (leb sections_size (length sections)) l.1 in
      record { exists = h; long = leb-true rows_size (length rows) m.0; scratch_is = x; rows_are = y; sections_are = z }
  reprinted_by k _ waits q x y z = absurd (let o : ◌≡◌ {A = ℕ} 0 1 = cc in omega arith)
  reprinted_by k _ (stops h) q x y z = absurd (let o : ◌≡◌ {A = ℕ} 0 1 = cc in omega arith)

  left_by : (w : Refusal) (p : ℕ) (v : Verdict) → Comes s lent (nat_abs page) v → Err (refusal_at w p) ≡ reprint_answer page v
      → scratch' ≡ scratch_leaves v scratch → rows' ≡ row_leaves a page v rows → sections' ≡ sections_leaves a page v sections
      → (rows' ≡ rows) × (sections' ≡ sections) × Left w scratch scratch'
  unfolding reprint_answer scratch_leaves row_leaves sections_leaves
  left_by w p _ (runs e h) q x y z = absurd (let o : ◌≡◌ {A = ℕ} 0 1 = cc in omega arith)
  left_by w p _ waits q x y z = let o : w ≡ PreambleUnfinished = same_why q in (y, z, ((λ h. absurd (h o)), λ _. x))
  left_by w p _ (stops {w = u} h) q x y z = let o : w ≡ u = same_why q in (y, z, ((λ _. x), λ e. absurd (h (sym o ∙ e))))

pub reprinted : {s : List ℕ} {a page : ℤ} {n : ℕ} {scratch scratch' rows rows' sections sections' : List ℕ}
    → Reprints s a page scratch scratch' rows rows' sections sections' (Ok n) → Reprinted s a (nat_abs page) scratch scratch' rows rows' sections sections'
reprinted {s} {a} {page} {n} {scratch} {scratch'} {rows} {rows'} {sections} {sections'} r =
    reprinted_by s a page scratch scratch' rows rows' sections sections' n _ (reprint_comes s a page scratch rows sections) r.answer r.scratch_left r.rows_left r.sections_left

pub reprint_refused : {s : List ℕ} {a page : ℤ} {scratch scratch' rows rows' sections sections' : List ℕ} {w : Refusal} {p : ℕ}
    → Reprints s a page scratch scratch' rows rows' sections sections' (Err (refusal_at w p))
    → (rows' ≡ rows) × (sections' ≡ sections) × Left w scratch scratch'
reprint_refused {s} {a} {page} {scratch} {scratch'} {rows} {rows'} {sections} {sections'} {w} {p} r =
    left_by s a page scratch scratch' rows rows' sections sections' w p _ (reprint_comes s a page scratch rows sections) r.answer r.scratch_left r.rows_left r.sections_left

-- ---- load, then run

module _ (s : List ℕ) (n : ℕ) (scratch rows : List ℕ) where
  finished_answer : (c : ℕ) (bodies : List (List ℕ)) → c ≡ length bodies - 1
      → (run_answer (finished (pos n) bodies) ≡ Ok c) ⊎ (run_answer (finished (pos n) bodies) ≡ Err (refusal_at PreambleUnfinished 0))
  unfolding finished run_answer
  finished_answer c bodies e =
      either (λ v. (run_answer v ≡ Ok c) ⊎ (run_answer v ≡ Err (refusal_at PreambleUnfinished 0)))
      (eqb (outcome (preamble_end n (preamble_of bodies))) 3) unfinished (accepted bodies)
      (λ _. inr refl) (λ _. inl (ap Ok (sym e)))

  pub run_loaded : (c : ℕ) → load_answer s ≡ Ok c → scratch_size ≤ length scratch → rows_size ≤ length rows → 1 ≤ n → n ≤ most_steps
      → (run_answer (run_verdict s (pos n) scratch rows) ≡ Ok c) ⊎ (run_answer (run_verdict s (pos n) scratch rows) ≡ Err (refusal_at PreambleUnfinished 0))
  unfolding pages_in load_answer run_verdict admitted allowed on_sound bodies_of
  run_loaded c q x y l m =
      by_test (leb (length s) longest)
      (λ e. by (skeleton_of s) refl e)
      (λ e. absurd (let w : Err (refusal_at TooLong 0) ≡ Ok c = rw e at q in let z : ◌≡◌ {A = ℕ} 0 1 = cc in omega arith))
    where
      by : (k : Skeleton) → skeleton_of s ≡ k → leb (length s) longest ≡ true
          → (run_answer (run_verdict s (pos n) scratch rows) ≡ Ok c) ⊎ (run_answer (run_verdict s (pos n) scratch rows) ≡ Err (refusal_at PreambleUnfinished 0))
      by (sound spans) w e =
          let g : Ok (length spans - 1) ≡ Ok c = rw (e, w) at q in
          let h : c ≡ length spans - 1 = cc in
          rw (e, le-leb scratch_size (length scratch) x, le-leb rows_size (length rows) y, le-leb 1 n l, le-leb n most_steps m, w)
          (finished_answer c (bodies_of s spans) (simp length-map h))
      by (refused v p) w e = absurd (let g : Err (refusal_at v p) ≡ Ok c = rw (e, w) at q in let z : ◌≡◌ {A = ℕ} 0 1 = cc in omega arith)
