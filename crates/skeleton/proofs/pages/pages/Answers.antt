-- `pages::pages` meets its contract: whatever the preamble's span is, the pages from here on are counted, and stand, as all of them do. Assumes nothing.
use Rattle.std.specs.Prelude.{Ok}
use Rattle.std.proofs.lemmas.Result.{err_from_is_err_and}
use mathlib.Core.Path.{sym, ap, ◌∙◌}
use native.Mathlib.Omega.{arith}
use Rattle.skeleton.proofs.PageTurns.{counting_starts, counting_aside, page_room, counting_page, counting_ended, counting_halts}
use Rattle.skeleton.proofs.pages.pages.Goals as goal

pub loop-next-init : goal.loop-next-init
loop-next-init c = counting_starts _ _ _

pub loop-next-smaller-in-Aside : goal.loop-next-smaller-in-Aside
loop-next-smaller-in-Aside c =
    let g = counting_aside _ _ _ _ _ _ c.loop-next.invariant _ (sym c.turn.ensures ∙ c.in_ok-next.was ∙ ap Ok c.in-Aside.is) in omega (arith, g.0, g.1)

pub loop-next-preserved-in-Aside : goal.loop-next-preserved-in-Aside
loop-next-preserved-in-Aside c = (counting_aside _ _ _ _ _ _ c.loop-next.invariant _ (sym c.turn.ensures ∙ c.in_ok-next.was ∙ ap Ok c.in-Aside.is)).2

pub note-requires : goal.note-requires
note-requires c = page_room _ _ _ _ _ _ c.loop-next.invariant _ c.requires (sym c.turn.ensures ∙ c.in_ok-next.was ∙ ap Ok c.in-Page.is)

pub overflow_add-had : goal.overflow_add-had
overflow_add-had c = omega (arith, c.loop-next.invariant.few)

pub loop-next-smaller : goal.loop-next-smaller
loop-next-smaller c =
    let g = counting_page _ _ _ _ _ _ c.loop-next.invariant _ _ c.requires (sym c.turn.ensures ∙ c.in_ok-next.was ∙ ap Ok c.in-Page.is) c.note.ensures in
    omega (arith, g.0, g.1)

pub loop-next-preserved : goal.loop-next-preserved
loop-next-preserved c =
    (counting_page _ _ _ _ _ _ c.loop-next.invariant _ _ c.requires (sym c.turn.ensures ∙ c.in_ok-next.was ∙ ap Ok c.in-Page.is) c.note.ensures).2

pub overflow_sub-result : goal.overflow_sub-result
overflow_sub-result c = omega (arith, c.loop-next.invariant.some)

pub returns-in-Ended : goal.returns-in-Ended
returns-in-Ended c = λ q h. counting_ended _ _ _ _ _ _ c.loop-next.invariant q h (sym c.turn.ensures ∙ c.in_ok-next.was ∙ ap Ok c.in-Ended.is)

pub returns-in_err-next : goal.returns-in_err-next
returns-in_err-next c =
    λ q h. let p = err_from_is_err_and c.from_residual.result c.from_residual.ensures.1 in
    rw (p.1, p.2) (counting_halts _ _ _ _ _ _ c.loop-next.invariant q h _ (sym c.turn.ensures ∙ c.in_err-next.was))
