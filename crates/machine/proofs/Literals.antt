-- No run of a master whose skeleton is sound meets the default of `found_at`: at every moment of every page's run that has not ended the
-- running context is not at its end, and a literal stands at its place. In order: a step; the pages of a master. Assumes nothing.
use Prim.Native.Nat.{ℕ, zero, suc, ◌+◌, ◌<◌}
use native.Mathlib.Omega.{arith}
use mathlib.Core.Path.{◌≡◌, subst}
use mathlib.Core.Bool.{false}
use mathlib.Core.List.{List, [], ◌∷◌}
use lib.Dec.{lit<}
use lib.ListN.{get_or}
use borrow.Author.Tests.{leb-false}
use Rattle.machine.specs.declared.Literal.TheVariants.{WithBody}
use Rattle.machine.specs.State.{Context, State, running}
use Rattle.machine.specs.Skeleton.{solid, solid_from, Span, sound, skeleton_of}
use Rattle.machine.specs.Literal.{Code, bytes_of, found_at}
use Rattle.machine.specs.Contexts.{at_end, failing, fault, settle, skipped_in, skipped}
use Rattle.machine.specs.Step.{begun_in, ended, due_in, step, begin}
use Rattle.machine.specs.Page.{bodies_of, preamble_of}
use Rattle.machine.specs.Isolation.{code_at, moment}
use Rattle.machine.specs.Readable.{IsLiteral, Readable, at_its_end, literal, Whole}
use Rattle.machine.proofs.Readable.{AllWhole, bodies_readable}
use Rattle.machine.proofs.SoundValues.{Rest, reading, stays}
use Rattle.machine.proofs.Recovery.{Lower, Due, anywhere, recover_lands, leave_lands, skip_lands}
use Rattle.machine.proofs.Steps.{Begun, begins, by_contexts, step_by_lem, Executed, execute_is}
use Rattle.machine.proofs.Throughout.{All}
use Rattle.machine.proofs.Held.{Held}
use Rattle.machine.proofs.HeldRuns.{Passes}
use Rattle.machine.proofs.Moments.{moment_held}

-- every value and every body in progress is readable, and the running context, if there is one, has a literal left
abbrev pub Ready : Code → State → Type 0
Ready code s = Held (reading code) s × Due s.contexts

-- what the theorem says of a moment: a literal is due in the running context
pub record LiteralDue (code : Code) (s : State) : Type 0 where
  pub going : at_end (running s.contexts) ≡ false
  pub is_literal : IsLiteral (bytes_of code (running s.contexts).origin) (running s.contexts).at (due_in code s)

-- ---- a step

-- what a readable rest that is not at its end says
pub record First (b : List ℕ) (at end : ℕ) : Type 0 where
  pub is_literal : IsLiteral b at (found_at b at)
  pub inside : (n start len : ℕ) → (found_at b at).literal ≡ WithBody n start len → Readable b (solid b start) (start + len)
  pub rest : Readable b (found_at b at).next end

pub first : (b : List ℕ) (at end : ℕ) → at < end → Readable b at end → First b at end
first b at end l at_its_end = absurd (omega arith)
first b at end l (literal i p q r) = record { is_literal = p; inside = q; rest = r }

-- any stack and any contexts
pub any : Lower (λ _. Unit) (λ _. Unit)
any = anywhere (λ _. Unit) tt (λ _ _ _. tt)

module _ (code : Code) where
  -- where the running context is known
  module _ (s : State) (h : Held (reading code) s) (due : Due s.contexts) (c : Context) (cs : List Context) (e : s.contexts ≡ c ∷ cs) where
    pub rest : Rest code c.origin c.at c.end
    rest = (subst (All (λ (d : Context). Rest code d.origin d.at d.end)) e h.contexts_are).0

    pub going : at_end c ≡ false
    going = subst Due e due

    firstly : First (bytes_of code c.origin) c.at c.end
    unfolding at_end
    firstly = first _ c.at c.end (leb-false c.end c.at going) rest.readable

    here_due : LiteralDue code s
    unfolding running due_in
    here_due = record { going = rw e going; is_literal = rw e firstly.is_literal }

    pub here_passes : Passes code (reading code) s
    unfolding running due_in
    here_passes = rw e (record { own = λ n start len z. record { there = rest.there; readable = firstly.inside n start len z }; past = record { there = rest.there; readable = firstly.rest } })

  -- whatever the step does
  pub step_due : (s : State) → ended s.contexts ≡ false → Due (step code s).contexts
  unfolding fault settle failing skipped skipped_in begun_in
  step_due s live = step_by_lem code s (λ r. Due r.contexts) Executed live (λ t _. execute_is code _ t) skips
      (λ t _. (recover_lands any t.stack t.contexts tt tt).due) (λ t u _ _. (leave_lands any u.stack u.contexts tt tt).due)
    where
      skips : (t : State) → Begun code s t → Due (skipped t).contexts
      skips t (begins c cs e) = (skip_lands any s.stack _ cs tt tt).due

-- ---- the pages of a master

-- at every moment of every page's run
pub moment_ready : (bodies : List (List ℕ)) → ((i : ℕ) → Whole (get_or bodies i [])) → (allowance n i : ℕ) → Ready (code_at bodies n) (moment allowance bodies n i)
unfolding begin settle preamble_of
moment_ready bodies whole allowance = moment_held reading (λ s. Due s.contexts) (record {
  more = λ pre body cells origin start len first h. stays (pre ∷ []) (body ∷ []) origin start len h;
  steps = λ code s live _. step_due code s live;
  passes = λ code s live h due. by_contexts s live (here_passes code s h due);
  begun = λ code origin frame cells. (leave_lands any [] _ tt tt).due;
}) allowance bodies (record { there = lit< tt; readable = whole 0 }) (λ n. record { there = lit< tt; readable = whole (suc n) })

-- the bodies of a master; where there is none, no bytes
pub all_whole : (s : List ℕ) (spans : List Span) → AllWhole s spans → (i : ℕ) → Whole (get_or (bodies_of s spans) i [])
unfolding bodies_of solid solid_from
all_whole s [] h i = at_its_end
all_whole s (p ∷ ps) h zero = h.0
all_whole s (p ∷ ps) h (suc i) = all_whole s ps h.1 i

module _ (s : List ℕ) (spans : List Span) (accepted : skeleton_of s ≡ sound spans) (allowance n i : ℕ) where
  -- at every moment every context in progress, every operator on the stack, in frames and in cells has its body readable
  pub always_ready : Ready (code_at (bodies_of s spans) n) (moment allowance (bodies_of s spans) n i)
  always_ready = moment_ready (bodies_of s spans) (all_whole s spans (bodies_readable s spans accepted)) allowance n i

  -- no run meets the default of `found_at`
  pub literal_due : ended (moment allowance (bodies_of s spans) n i).contexts ≡ false → LiteralDue (code_at (bodies_of s spans) n) (moment allowance (bodies_of s spans) n i)
  literal_due h =
      by_contexts (moment allowance (bodies_of s spans) n i) h
      (here_due (code_at (bodies_of s spans) n) (moment allowance (bodies_of s spans) n i) always_ready.0 always_ready.1)
