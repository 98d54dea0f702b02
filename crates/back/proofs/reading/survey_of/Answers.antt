-- `reading::survey_of` meets its contract: what is counted and what is left from `at` on are the whole list. Assumes nothing.
use Rattle.std.specs.Prelude.{Ok}
use Rattle.std.proofs.lemmas.Result.{err_from_is_err_and}
use Rattle.tokens.specs.declared.Read.{Read}
use Rattle.filling.specs.declared.Step.{Step}
use lib.ListN.{get_or}
use mathlib.Core.Path.{◌≡◌, refl, sym, ap, subst, ◌∙◌}
use mathlib.Core.List.{List, [], ◌++◌}
use Prim.Native.Nat.{ℕ, ◌-◌, ◌<◌, ◌≤◌}
use native.Mathlib.Omega.{arith}
use lib.ListN.{length}
use Rattle.tokens.specs.Token.{token_at}
use Rattle.tokens.proofs.Theorems.{token_says}
use Rattle.lists.specs.Promise.{texts_of}
use Rattle.filling.specs.Filling.{step_of, added}
use Rattle.filling.proofs.Surveying.{Steps, steps, Goes, survey_end, survey_stop, survey_next}
use Rattle.back.proofs.reading.survey_of.Goals as goal
use Rattle.back.proofs.reading.survey_of.Goals.{After-step_of-step}

stepped : (s : List ℕ) (at : ℕ) (t : Read) (p : Step) → ((i : ℕ) → get_or s i 0 < 256) → at ≤ length s → Ok t ≡ token_at s at → Ok p ≡ step_of (Ok t)
    → Goes s at (token_at s at) p.adds p.text p.next
stepped s at t p b h e f = subst (Steps s at (token_at s at)) (sym (f ∙ ap step_of e)) (steps s at (token_at s at) (token_says s at b h))

gone : (c : After-step_of-step) → let s = c.args.s.now in let at = c.loop-at.at in let p = c.step_of-step.result in Goes s at (token_at s at) p.adds p.text
    p.next
gone c =
    let s = c.args.s.now in
    let at = c.loop-at.at in
    stepped s at _ _ (λ i. omega (arith, c.type_inv.s i)) (omega arith) (sym c.in_ok-token.was ∙ c.read_token.ensures) c.step_of-step.ensures

pub loop-at-init : goal.loop-at-init
unfolding texts_of
loop-at-init c =
    (length c.args.s.now, [], record { room = omega arith; count = refl; texts = refl; count_in = omega arith; texts_in = omega arith; rest = refl })

pub read_token-requires : goal.read_token-requires
read_token-requires c = tt

pub returns-in_err-token : goal.returns-in_err-token
returns-in_err-token c =
    let p = err_from_is_err_and c.from_residual.result c.from_residual.ensures.1 in
    rw (p.1, p.2) (survey_stop c.loop-at.invariant.2 (omega arith) (sym c.read_token.ensures ∙ c.in_err-token.was))

pub overflow_add-count : goal.overflow_add-count
overflow_add-count c = omega (arith, c.loop-at.invariant.2.count_in, (gone (goal.at.overflow_add-count c).After-step_of-step).few)

pub overflow_add-texts : goal.overflow_add-texts
overflow_add-texts c =
    omega (
      arith,
      c.loop-at.invariant.2.texts_in,
      (gone (goal.at.overflow_add-texts c).After-step_of-step).later,
      (gone (goal.at.overflow_add-texts c).After-step_of-step).inside,
    )

pub loop-at-smaller : goal.loop-at-smaller
loop-at-smaller c = omega (arith, (gone (goal.at.loop-at-smaller c).After-step_of-step).later)

pub loop-at-preserved : goal.loop-at-preserved
loop-at-preserved c =
    let s = c.args.s.now in
    let o = c.loop-at in (
      o.invariant.0 - 1,
      o.invariant.1 ++ added s o.at (token_at s o.at),
      survey_next o.invariant.2 (omega arith)
          (gone (goal.at.loop-at-preserved c).After-step_of-step),
    )

pub returns : goal.returns
returns c = survey_end c.loop-at.invariant.2 (omega arith)
