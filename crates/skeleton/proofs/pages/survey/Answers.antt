-- `pages::survey` meets its contract: the header, BEGIN, then the preamble and the pages. Assumes nothing.
use Rattle.std.proofs.lemmas.Result.{err_from_is_err_and}
use mathlib.Core.Path.{sym, ◌∙◌}
use Rattle.skeleton.proofs.PageTurns.{headless, begun, not_begun}
use Rattle.skeleton.proofs.pages.survey.Goals as goal

pub returns-then-not-begins : goal.returns-then-not-begins
returns-then-not-begins c = rw c.met_at.ensures (headless _ _ (sym c.begins.ensures ∙ c.if-not-begins.true))

pub returns-in_err-next : goal.returns-in_err-next
returns-in_err-next c =
    let p = err_from_is_err_and c.from_residual.result c.from_residual.ensures.1 in
    rw (p.1, p.2) (not_begun _ _ _ (sym c.begins.ensures ∙ c.if-not-begins.false) (sym c.due_from.ensures ∙ c.in_err-next.was))

pub returns : goal.returns
returns c =
    begun _ _ _ _ (sym c.begins.ensures ∙ c.if-not-begins.false) (sym c.due_from.ensures ∙ c.in_ok-next.was) c.preamble_on.ensures
