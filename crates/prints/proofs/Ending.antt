-- From the table to the preamble's end and a page's. Assumes nothing.
use Prim.Native.Nat.{ℕ, ◌+◌, ◌-◌, ◌≤◌}
use native.Mathlib.Omega.{arith}
use mathlib.Core.Path.{◌≡◌, refl, sym, ap, subst, ◌∙◌}
use mathlib.Core.Logic.{inl, inr}
use mathlib.Core.List.{List, [], ◌++◌}
use lib.ListN.{length, take, length-append}
use lib.Seq.{take_at}
use Rattle.table.specs.Slots.{slots, copied, asc}
use Rattle.table.proofs.Moves.{same_copied, length_copied}
use Rattle.machine.specs.declared.Value.{Value}
use Rattle.machine.specs.State.{State, zero_frame}
use Rattle.machine.specs.Skeleton.{solid}
use Rattle.machine.specs.Literal.{bytes_of}
use Rattle.machine.specs.Step.{run, begin}
use Rattle.machine.specs.Page.{preamble_end, page_start}
use Rattle.machine.specs.Readable.{Whole}
use Rattle.machine.proofs.Legible.{Legible, legible_preamble, legible_page}
use Rattle.names.specs.Names.{both}
use Rattle.state.specs.declared.Registers.{Registers}
use Rattle.state.specs.Layout.{values_at, aside, abs, lent}
use Rattle.state.specs.Operations.{filled, opening, Opened}
use Rattle.state.proofs.Parts.{wide, room_of_lem, stack_same, values_same, lent_same, contexts_same, length_values}
use Rattle.state.proofs.Ending.{state_path}
use Rattle.state.proofs.Cutting.{values_cut, values_moved}
use Rattle.state.proofs.Framing.{frame_filled}
use Rattle.engine.specs.Steps.{Ran}
use Rattle.origins.proofs.ByOrigin.{empty}
use Rattle.prints.specs.Ran.{Preambled, Paged, Ready}
use Rattle.prints.proofs.Growing.{begin_grown}
use Rattle.prints.proofs.SameBytes.{preamble_alone}

opened_begins : (code : List (List ℕ)) (origin at end : ℕ) (frame cells : List Value) → at ≡ solid (bytes_of code origin) 0 → end ≡ length (bytes_of code origin) → opening origin at end frame cells ≡ begin code origin frame cells
unfolding opening begin
opened_begins code origin at end frame cells e f = rw (e, f)

-- the preamble begins
preamble_starts : (w w₁ w₂ pre none : List ℕ) (at end : ℕ) (r : Registers) → 48000 ≤ length w → slots w₁ ≡ filled (slots w) 128 50 → at ≡ solid (bytes_of (both pre none) 0) 0 → end ≡ length pre → Opened 0 at end 0 w₁ w₂ r
    → abs w₂ r ≡ begin (both pre none) 0 zero_frame []
unfolding values_at asc
preamble_starts w w₁ w₂ pre none at end r room p₁ ea ee o = o.is ∙ (rw (p₁, frame_filled (slots w) (wide w room)) (opened_begins (both pre none) 0 at end zero_frame [] ea ee))

pub preamble_legible : (w w₁ w₂ pre none : List ℕ) (at end : ℕ) (r : Registers) → 48000 ≤ length w → slots w₁ ≡ filled (slots w) 128 50 → at ≡ solid (bytes_of (both pre none) 0) 0 → end ≡ length pre → Opened 0 at end 0 w₁ w₂ r
    → Whole pre → Legible (both pre none) (abs w₂ r)
preamble_legible w w₁ w₂ pre none at end r room p₁ ea ee o whole =
    subst (Legible (both pre none)) (sym (preamble_starts w w₁ w₂ pre none at end r room p₁ ea ee o)) (legible_preamble pre none whole)

module _ (w w₁ w₂ w₃ w' : List ℕ) (pre none : List ℕ) (at end allowance : ℕ) (r q : Registers) (room : 48000 ≤ length w) (alone : length none ≡ 0)
    (p₁ : slots w₁ ≡ filled (slots w) 128 50) (ea : at ≡ solid (bytes_of (both pre none) 0) 0) (ee : end ≡ length pre) (o : Opened 0 at end 0 w₁ w₂ r) (n : Ran pre none allowance w₂ r w₃ q) (p : slots w' ≡ copied (slots w₃) 128 1764 50) where
  started : abs w₂ r ≡ begin (both pre none) 0 zero_frame []
  started = preamble_starts w w₁ w₂ pre none at end r room p₁ ea ee o

  ended_as : abs w₃ q ≡ preamble_end allowance pre
  unfolding preamble_end
  ended_as = n.does ∙ (rw (started, empty none (sym alone)) (preamble_alone pre allowance zero_frame []))

  still_lent : lent (slots w') q.depth ≤ q.used
  still_lent =
      let m = slots w₃ in
      let g = n.good in
      rw p (omega (arith, lent_same (copied m 128 1764 50) m q.depth (same_copied m 128 1764 50 1752 _ (inr (omega arith))), g.frames_fit))

  same_state : abs w' q ≡ abs w₃ q
  same_state =
      let m = slots w₃ in
      let g = n.good in
      state_path
      (rw p (stack_same (copied m 128 1764 50) m q.height (same_copied m 128 1764 50 0 _ (inr (omega arith)))))
      (rw p (contexts_same (copied m 128 1764 50) m q.depth q.used (rw p at still_lent) g.cells_fit (same_copied m 128 1764 50 128 _ (inr (omega arith))) (same_copied m 128 1764 50 728 _ (inr (omega arith))) (same_copied m 128 1764 50 1752 _ (inr (omega arith)))))
      (rw p (values_same (copied m 128 1764 50) m 128 50 (same_copied m 128 1764 50 128 _ (inr (omega arith)))))
      (rw p (values_same (copied m 128 1764 50) m 728 q.used (same_copied m 128 1764 50 728 _ (inr (omega arith)))))

  kept_aside : aside w' ≡ (abs w₃ q).frame
  unfolding aside
  kept_aside = rw p (values_moved (slots w₃) 128 1764 50 (omega (arith, wide w₃ n.good.room)) (inl (omega arith)))

  pub preamble_ends : Preambled pre allowance w' q
  preamble_ends =
      let g = n.good in
      let rm : 48000 ≤ length w' = room_of_lem w' (copied (slots w₃) 128 1764 50) p (rw length_copied (wide w₃ g.room)) in
      let c = o.counted in
      let d = n.counted in
      let l = still_lent in
      record {
        good = omega arith;
        does = same_state ∙ ended_as;
        kept = kept_aside ∙ ap (λ (s : State). s.frame) ended_as;
        counted = omega arith;
      }

-- a page begins
module _ (w w₁ : List ℕ) (used : ℕ) (room : 48000 ≤ length w) (few : used ≤ 1024) (p₁ : slots w₁ ≡ copied (slots w) 1764 128 50) where
  frame_is : values_at (slots w₁) 128 50 ≡ aside w
  unfolding aside
  frame_is = rw p₁ (values_moved (slots w) 1764 128 50 (omega (arith, wide w room)) (inr (omega arith)))

  cells_are : values_at (slots w₁) 728 used ≡ values_at (slots w) 728 used
  cells_are = rw p₁ (values_same (copied (slots w) 1764 128 50) (slots w) 728 used (same_copied (slots w) 1764 128 50 728 _ (inl (omega arith))))

  aside_is : aside w₁ ≡ aside w
  unfolding aside
  aside_is = rw p₁ (values_same (copied (slots w) 1764 128 50) (slots w) 1764 50 (same_copied (slots w) 1764 128 50 1764 _ (inl (omega arith))))

  page_starts : (w₂ pre body : List ℕ) (at end : ℕ) (r : Registers) → at ≡ solid (bytes_of (both pre body) 1) 0 → end ≡ length body → Opened 1 at end used w₁ w₂ r
      → abs w₂ r ≡ begin (both pre body) 1 (aside w) (values_at (slots w) 728 used)
  page_starts w₂ pre body at end r ea ee o = rw (o.is, frame_is, cells_are, opened_begins (both pre body) 1 at end (aside w) (values_at (slots w) 728 used) ea ee) refl

pub page_legible : (w w₁ w₂ pre body : List ℕ) (at end used allowance : ℕ) (r : Registers) → Ready pre allowance used w → slots w₁ ≡ copied (slots w) 1764 128 50 → at ≡ solid (bytes_of (both pre body) 1) 0 → end ≡ length body
    → Opened 1 at end used w₁ w₂ r → Whole pre → Whole body → Legible (both pre body) (abs w₂ r)
unfolding page_start
page_legible w w₁ w₂ pre body at end used allowance r k p₁ ea ee o whole own =
    let e : abs w₂ r ≡ page_start allowance pre body = page_starts w w₁ used k.room k.few p₁ w₂ pre body at end r ea ee o ∙ rw (k.frame_kept, k.cells_kept) in
    subst (Legible (both pre body)) (sym e) (legible_page allowance pre body whole own)

module _ (w w₁ w₂ w' : List ℕ) (pre body : List ℕ) (at end used allowance : ℕ) (r q : Registers) (room : 48000 ≤ length w) (few : used ≤ 1024)
    (p₁ : slots w₁ ≡ copied (slots w) 1764 128 50) (ea : at ≡ solid (bytes_of (both pre body) 1) 0) (ee : end ≡ length body) (o : Opened 1 at end used w₁ w₂ r) (n : Ran pre body allowance w₂ r w' q) where
  ran : abs w' q ≡ run allowance (both pre body) (begin (both pre body) 1 (aside w) (values_at (slots w) 728 used))
  ran = n.does ∙ ap (run allowance (both pre body)) (page_starts w w₁ used room few p₁ w₂ pre body at end r ea ee o)

  grown : (new : List Value) × (values_at (slots w') 728 q.used ≡ values_at (slots w) 728 used ++ new)
  grown =
      let g = begin_grown (both pre body) 1 allowance (aside w) (values_at (slots w) 728 used) in
      (g.0, ap (λ (s : State). s.cells) ran ∙ g.1)

  as_many : used ≤ q.used
  as_many =
      let g = grown in
      let e : length (values_at (slots w') 728 q.used) ≡ length (values_at (slots w) 728 used ++ g.0) = ap length g.1 in
      omega (arith, length_values (slots w') 728 q.used, length_values (slots w) 728 used, length-append (values_at (slots w) 728 used) g.0)

  front : values_at (slots w') 728 used ≡ values_at (slots w) 728 used
  front =
      let g = grown in
      let l = as_many in
      let e : q.used ≡ used + (q.used - used) = omega arith in
      let cut : values_at (slots w') 728 q.used ≡ values_at (slots w') 728 used ++ values_at (slots w') (728 + used) (q.used - used) = ap (values_at (slots w') 728) e ∙ values_cut (slots w') 728 used (q.used - used) in
      sym (take_at (values_at (slots w') 728 used) (values_at (slots w') (728 + used) (q.used - used)) used (length_values (slots w') 728 used)) ∙
      ap (take used) (sym cut ∙ g.1) ∙
      take_at (values_at (slots w) 728 used) g.0 used (length_values (slots w) 728 used)

  pub page_ends : Paged pre body used allowance w w' q
  page_ends =
      let c = o.counted in
      let d = n.counted in
      record {
        good = n.good;
        does = ran;
        keeps = n.keeps ∙ o.keeps ∙ aside_is w w₁ used room few p₁;
        cells = front;
        more = as_many;
        counted = omega arith;
      }
