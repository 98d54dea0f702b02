-- What a run of checked bodies never loses: frames and cells within their limits, every body in progress and every operator's body readable,
-- and a literal left in the running one. So the engine need not judge again what the check has judged. In order: what it says; a run keeps it;
-- a run begins with it; the literal that is due. Assumes nothing.
use Prim.Native.Nat.{ℕ, zero, suc, ◌<◌, zero-le}
use mathlib.Core.Path.{◌≡◌}
use mathlib.Core.Bool.{false}
use mathlib.Core.List.{List, [], ◌∷◌}
use lib.Dec.{lit<}
use lib.ListN.{get_or, length-replicate}
use borrow.Author.Tests.{leb-false}
use Rattle.machine.specs.Limits.{frame_size}
use Rattle.machine.specs.State.{State, zero_frame, running}
use Rattle.machine.specs.State as state
use Rattle.machine.specs.Skeleton.{solid, solid_from}
use Rattle.machine.specs.Literal.{Code, bytes_of, found_at}
use Rattle.machine.specs.Contexts.{at_end, settle}
use Rattle.machine.specs.Step.{ended, run, begin}
use Rattle.machine.specs.Page.{preamble_of, page_start}
use Rattle.machine.specs.Isolation.{code_at, start_at, moment, Bounded}
use Rattle.machine.specs.Readable.{IsLiteral, Readable, at_its_end, Whole}
use Rattle.machine.proofs.SoundValues.{reading}
use Rattle.machine.proofs.Recovery.{Due, leave_lands}
use Rattle.machine.proofs.Steps.{by_contexts}
use Rattle.machine.proofs.Throughout.{all_replicate}
use Rattle.machine.proofs.WithinLimits.{begin_bounded, run_bounded}
use Rattle.machine.proofs.Held.{OfValue}
use Rattle.machine.proofs.HeldRuns.{run_held, begin_held}
use Rattle.machine.proofs.Moments.{moment_bounded}
use Rattle.machine.proofs.Literals.{Ready, any, rest, going, here_passes, step_due, first, moment_ready}

-- ---- what it says

abbrev pub Legible : Code → State → Type 0
Legible code s = Bounded s × Ready code s

-- the rest of the running body, which is not at its end
pub record Going (b : List ℕ) (at end : ℕ) : Type 0 where
  pub before : at < end
  pub readable : Readable b at end

-- ---- a run keeps it

pub legible_run : (code : Code) (n : ℕ) (s : State) → Legible code s → Legible code (run n code s)
legible_run code n s h = (
  run_bounded code n s h.0,
  run_held code (reading code) (λ t. Due t.contexts) (λ t live _. step_due code t live) (λ t live k due. by_contexts t live (here_passes code t k due)) n s h.0 h.1.1 h.1.0,
)

-- ---- a run begins with it

-- the preamble, beside any page
pub legible_preamble : (pre body : List ℕ) → Whole pre → Legible (pre ∷ body ∷ []) (begin (pre ∷ body ∷ []) 0 zero_frame [])
unfolding begin settle zero_frame
legible_preamble pre body whole =
    let code : Code = pre ∷ body ∷ [] in (
      begin_bounded code 0 zero_frame [] (length-replicate frame_size state.zero) zero-le,
      (begin_held code (reading code) 0 zero_frame [] (record { there = lit< tt; readable = whole }) (all_replicate (OfValue (reading code) []) frame_size state.zero tt) tt, (leave_lands any [] _ tt tt).due),
    )

-- a page, from what the preamble left
pub legible_page : (allowance : ℕ) (pre body : List ℕ) → Whole pre → Whole body → Legible (pre ∷ body ∷ []) (page_start allowance pre body)
unfolding moment start_at code_at preamble_of run solid solid_from
legible_page allowance pre body p q =
    let bodies : List (List ℕ) = pre ∷ body ∷ [] in
    (moment_bounded allowance bodies 1 0, moment_ready bodies each allowance 1 0)
  where
    each : (i : ℕ) → Whole (get_or (pre ∷ body ∷ []) i [])
    each zero = p
    each (suc zero) = q
    each (suc (suc i)) = at_its_end

-- ---- the literal that is due

pub going_on : (code : Code) (s : State) → Legible code s → ended s.contexts ≡ false → Going (bytes_of code (running s.contexts).origin) (running s.contexts).at (running s.contexts).end
unfolding running at_end
going_on code s h live =
    by_contexts s live (λ c cs e. rw e (record { before = leb-false c.end c.at (going code s h.1.0 h.1.1 c cs e); readable = (rest code s h.1.0 h.1.1 c cs e).readable }))

pub going_literal : {b : List ℕ} {at end : ℕ} → Going b at end → IsLiteral b at (found_at b at)
going_literal {b} {at} {end} g = (first b at end g.before g.readable).is_literal
