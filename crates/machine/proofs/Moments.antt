-- What holds of every moment of the preamble's run and of a page's: identities fall at its start, the limits are kept, and so is a claim
-- that every code has. In order: the start; the limits; a claim. Assumes nothing.
use Prim.Native.Nat.{ℕ, zero, suc, zero-le}
use native.Mathlib.Nat.{le_refl}
use mathlib.Core.Path.{◌≡◌}
use mathlib.Core.Bool.{false}
use mathlib.Core.List.{List, [], ◌∷◌}
use lib.ListN.{get_or, length-replicate}
use Rattle.machine.specs.declared.Value.{Value}
use Rattle.machine.specs.Limits.{frame_size}
use Rattle.machine.specs.State.{State, zero_frame}
use Rattle.machine.specs.State as state
use Rattle.machine.specs.Literal.{Code}
use Rattle.machine.specs.Step.{ended, step, run, begin}
use Rattle.machine.specs.Page.{preamble_of, preamble_end, page_start}
use Rattle.machine.specs.Isolation.{code_at, start_at, moment, Bounded}
use Rattle.machine.proofs.Identities.{Good}
use Rattle.machine.proofs.Numbered.{begin_good}
use Rattle.machine.proofs.WithinLimits.{begin_bounded, run_bounded}
use Rattle.machine.proofs.Throughout.{All, all_replicate, pointing_weaker, all_weaker}
use Rattle.machine.proofs.Held.{Claim, OfValue, Held}
use Rattle.machine.proofs.HeldRuns.{Passes, Whole, run_held, begin_held}

pub start_good : (allowance : ℕ) (bodies : List (List ℕ)) (n : ℕ) → Good (start_at allowance bodies n)
unfolding start_at page_start
start_good allowance bodies zero = begin_good _ _ _ _
start_good allowance bodies (suc n) = begin_good _ _ _ _

-- ---- the limits

preamble_bounded : (pre : List ℕ) → Bounded (begin (pre ∷ []) 0 zero_frame [])
unfolding zero_frame
preamble_bounded pre = begin_bounded (pre ∷ []) 0 zero_frame [] (length-replicate frame_size state.zero) zero-le

start_bounded : (allowance : ℕ) (bodies : List (List ℕ)) (n : ℕ) → Bounded (start_at allowance bodies n)
unfolding start_at page_start preamble_end
start_bounded allowance bodies zero = preamble_bounded (preamble_of bodies)
start_bounded allowance bodies (suc n) =
    let p = run_bounded (preamble_of bodies ∷ []) allowance _ (preamble_bounded (preamble_of bodies)) in
    begin_bounded _ 1 _ _ p.frame_is p.cells_are

pub moment_bounded : (allowance : ℕ) (bodies : List (List ℕ)) (n i : ℕ) → Bounded (moment allowance bodies n i)
unfolding moment
moment_bounded allowance bodies n i = run_bounded (code_at bodies n) i (start_at allowance bodies n) (start_bounded allowance bodies n)

-- ---- a claim

-- claims that the preamble's operators keep in a page's code; and what the steps keep besides, from which the literals that are due pass
pub record Lasting (K : (code : Code) → Claim code) (Q : State → Type 0) : Type 0 where
  pub more : (pre body : List ℕ) (cells : List Value) (origin start len first : ℕ) → (K (pre ∷ [])).OfOperator cells origin start len first → (K (pre ∷ body ∷ [])).OfOperator cells origin start len first
  pub steps : (code : Code) (s : State) → ended s.contexts ≡ false → Q s → Q (step code s)
  pub passes : (code : Code) (s : State) → ended s.contexts ≡ false → Held (K code) s → Q s → Passes code (K code) s
  pub begun : (code : Code) (origin : ℕ) (frame cells : List Value) → Q (begin code origin frame cells)

module _ (K : (code : Code) → Claim code) (Q : State → Type 0) (lasts : Lasting K Q) (allowance : ℕ) (bodies : List (List ℕ))
    (first : Whole (K (preamble_of bodies ∷ [])) 0) (page : (n : ℕ) → Whole (K (preamble_of bodies ∷ get_or bodies (suc n) [] ∷ [])) 1) where
  abbrev Both : Code → State → Type 0
  Both code s = Held (K code) s × Q s

  run_both : (code : Code) (i : ℕ) (s : State) → Bounded s → Both code s → Both code (run i code s)
  run_both code i s b h = run_held code (K code) Q (lasts.steps code) (lasts.passes code) i s b h.1 h.0

  preamble_both : Both (preamble_of bodies ∷ []) (begin (preamble_of bodies ∷ []) 0 zero_frame [])
  unfolding zero_frame
  preamble_both = (begin_held _ (K _) 0 zero_frame [] first (all_replicate (OfValue (K (preamble_of bodies ∷ [])) []) frame_size state.zero tt) tt, lasts.begun _ 0 _ [])

  start_both : (n : ℕ) → Both (code_at bodies n) (start_at allowance bodies n)
  unfolding start_at code_at page_start preamble_end
  start_both zero = preamble_both
  start_both (suc n) = (begin_held _ (K _) 1 _ _ (page n) (still p.frame r.values_are.frame_is) (still p.cells r.values_are.cells_are), lasts.begun _ 1 _ _)
    where
      pre : List ℕ
      pre = preamble_of bodies

      body : List ℕ
      body = get_or bodies (suc n) []

      p : State
      p = run allowance (pre ∷ []) (begin (pre ∷ []) 0 zero_frame [])

      r : Held (K (pre ∷ [])) p
      r = (run_both (pre ∷ []) allowance _ (preamble_bounded pre) preamble_both).0

      still : (vs : List Value) → All (OfValue (K (pre ∷ [])) p.cells) vs → All (OfValue (K (pre ∷ body ∷ [])) p.cells) vs
      still = all_weaker _ _ (pointing_weaker _ _ (le_refl _) _ _ (lasts.more pre body p.cells))

  pub moment_held : (n i : ℕ) → Both (code_at bodies n) (moment allowance bodies n i)
  unfolding moment
  moment_held n i = run_both (code_at bodies n) i (start_at allowance bodies n) (start_bounded allowance bodies n) (start_both n)
