-- One body of a master reprinted: the promise of `reprint`. Assumes nothing.
use Rattle.std.specs.Prelude.{Err}
use Rattle.tokens.specs.Refusal.{refusal_at}
use Prim.Native.Nat.{ℕ, ◌+◌, ◌<◌, ◌≤◌}
use native.Mathlib.Omega.{arith}
use mathlib.Core.Path.{◌≡◌, refl, sym, ap, ◌∙◌}
use mathlib.Core.Bool.{Bool, true, false, ◌&&◌, false≢true}
use mathlib.Core.List.{List, ◌++◌}
use lib.Dec.{leb, ltb}
use lib.IntN.{ℤ, pos, negsuc, nat_abs}
use lib.Signed.{le_z, lt_z}
use lib.ListN.{length, drop}
use borrow.Author.Tests.{leb-true, lt-leb, le-leb, lt-ltb, le-ltb}
use Rattle.numbers.proofs.Cond.{both, split}
use Rattle.tokens.specs.declared.Refusal.{Refusal}
use Rattle.tokens.specs.declared.Refusal.TheVariants.{NoSuchPage}
use Rattle.tokens.specs.Refusal.{Outcome}
use Rattle.machine.specs.Limits.{most_pages, scratch_size, rows_size, sections_size}
use Rattle.machine.specs.Promise.{halted, finished, scratch_leaves, paged, reprint_verdict, reprint_answer, row_leaves, sections_leaves, Reprints}
use Rattle.skeleton.specs.Spans.{Placed}
use Rattle.prints.specs.Ran.{Holds, Reprinted}
use Rattle.admission.specs.Judged.{Goes, Admitted}
use Rattle.admission.proofs.Admitting.{natural_is, steps_fit}
use Rattle.book.proofs.Booking.{scratch_clear}

-- a page that is there, or is not
up_to : (n last many : ℕ) → many ≡ last + 1 → leb n last ≡ ltb n many
up_to n last many e = split last n (λ h. lt-leb n last h ∙ sym (le-ltb n many (omega arith))) (λ h. le-leb n last h ∙ sym (lt-ltb n many (omega arith)))

page_there : (z : ℤ) (last many : ℕ) → many ≡ last + 1 → le_z (pos 0) z && le_z z (pos last) ≡ (le_z (pos 0) z && lt_z z (pos many))
page_there (pos n) last many e = rw (up_to n last many e) refl
page_there (negsuc n) last many e = refl

page_below : (z : ℤ) (last many n : ℕ) → many ≡ last + 1 → n ≡ nat_abs z → le_z (pos 0) z && le_z z (pos last) ≡ true → n < many
page_below (pos m) last many n e f g = omega (arith, leb-true m last (both (le_z (pos 0) (pos m)) (le_z (pos m) (pos last)) g).1)
page_below (negsuc m) last many n e f g = absurd (false≢true g)

module _ (s : List ℕ) (z page : ℤ) (scratch rows sections : List ℕ) where
  abbrev enough : Bool
  enough = leb scratch_size (length scratch) && (leb rows_size (length rows) && leb sections_size (length sections))

  untouched : (w : Refusal) (p : ℕ) (r : Outcome) → reprint_verdict s z page scratch rows sections ≡ halted w p → r ≡ Err (refusal_at w p) → Reprints s z page scratch scratch rows rows sections sections r
  unfolding reprint_answer scratch_leaves row_leaves sections_leaves
  untouched w p r h e = record { answer = rw h e; scratch_left = rw h refl; rows_left = rw h refl; sections_left = rw h refl }

  pub reprint_halts : (t : List ℕ) (w : Refusal) (p : ℕ) (r : Outcome) → Admitted s z enough t (Err (refusal_at w p)) → r ≡ Err (refusal_at w p) → Reprints s z page scratch scratch rows rows sections sections r
  unfolding reprint_verdict
  reprint_halts t w p r d e = untouched w p r (d.halts w p refl (paged z page)) e

  module _ (t : List ℕ) (last : ℕ) (g : Goes s z enough t last) where
    pub no_page : (r : Outcome) → le_z (pos 0) page && le_z page (pos last) ≡ false → r ≡ Err (refusal_at NoSuchPage 0) → Reprints s z page scratch scratch rows rows sections sections r
    unfolding reprint_verdict paged
    no_page r e f = untouched NoSuchPage 0 r (g.verdict (paged z page) ∙ (rw (sym (page_there page last (length g.bodies) g.many) ∙ e))) f

    pub reprint_done : (a n : ℕ) (w' rows' sections' : List ℕ) (r : Outcome) → le_z (pos 0) page && le_z page (pos last) ≡ true → a ≡ nat_abs z → n ≡ nat_abs page
        → ((bodies : List (List ℕ)) → Placed s t bodies → n < length bodies → Reprinted a n bodies w' rows rows' sections sections' r)
        → Reprints s z page scratch (w' ++ drop scratch_size scratch) rows rows' sections sections' r
    unfolding reprint_verdict paged
    reprint_done a n w' rows' sections' r e ea en f =
        let x = f g.bodies g.placed (page_below page last (length g.bodies) n g.many en e) in
        let za : pos a ≡ z = ap pos ea ∙ sym (natural_is z (steps_fit z g.steps).0) in
        let zn : pos n ≡ page = ap pos en ∙ sym (natural_is page (both (le_z (pos 0) page) (le_z page (pos last)) e).0) in
        let v : reprint_verdict s z page scratch rows sections ≡ finished (pos a) g.bodies = g.verdict (paged z page) ∙ (rw (sym (page_there page last (length g.bodies) g.many) ∙ e, za)) in
        record {
          answer = rw (v, ← zn) x.answer;
          scratch_left = rw v (scratch_clear a g.bodies scratch w' x.clear);
          rows_left = rw (v, ← za, ← zn) x.rows_are;
          sections_left = rw (v, ← za, ← zn) x.sections_are;
        }

pub page_held : {s t : List ℕ} {z : ℤ} {b : Bool} {last n : ℕ} (page : ℤ) → 1026 ≤ length t → Goes s z b t last → le_z (pos 0) page && le_z page (pos last) ≡ true → n ≡ nat_abs page → Holds s t n
page_held {last = last} {n = n} page l g e f = record { wide = l; bodies = g.bodies; placed = g.placed; there = page_below page last (length g.bodies) n g.many f e; whole = g.whole }

pub page_counts : {x z : ℤ} (last : ℕ) → x ≡ z → le_z (pos 0) z && le_z z (pos last) ≡ true → le_z (pos 0) x ≡ true
page_counts {z = z} last e f = rw e (both (le_z (pos 0) z) (le_z z (pos last)) f).0

pub few_pages : {s t : List ℕ} {z : ℤ} {b : Bool} {last : ℕ} → Goes s z b t last → last ≤ most_pages
few_pages g = omega (arith, g.placed.few, g.many)

pub reprint_room : {s t : List ℕ} {z : ℤ} {last : ℕ} (scratch rows sections : ℕ) → Goes s z (leb scratch_size scratch && (leb rows_size rows && leb sections_size sections)) t last → (scratch_size ≤ scratch) × (rows_size ≤ rows) × (sections_size ≤ sections)
reprint_room scratch rows sections g =
    let x = both (leb scratch_size scratch) (leb rows_size rows && leb sections_size sections) g.tables in
    let y = both (leb rows_size rows) (leb sections_size sections) x.1 in
    (leb-true scratch_size scratch x.0, leb-true rows_size rows y.0, leb-true sections_size sections y.1)
