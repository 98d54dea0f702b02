-- `pages::page_turn` meets its contract: the count of bodies, then the body. Assumes nothing.
use Rattle.std.specs.Prelude.{Err}
use Rattle.std.proofs.lemmas.Result.{err_from_is_err_and}
use mathlib.Core.Path.{sym, ap, ◌∙◌}
use native.Mathlib.Omega.{arith}
use Rattle.skeleton.proofs.PageTurns.{page_many, page_read, page_bad}
use Rattle.skeleton.proofs.pages.page_turn.Goals as goal

pub returns-then-had-gt-MOST_PAGES : goal.returns-then-had-gt-MOST_PAGES
returns-then-had-gt-MOST_PAGES c =
    let a = c.args in ap Err c.met_at.ensures ∙ page_many a.s.now a.had a.at c.if-had-gt-MOST_PAGES.true

pub returns-in_err-next : goal.returns-in_err-next
returns-in_err-next c =
    let a = c.args in
    let p = err_from_is_err_and c.from_residual.result c.from_residual.ensures.1 in
    rw (p.1, p.2) (page_bad a.s.now a.had a.at _ (omega (arith, c.if-had-gt-MOST_PAGES.false)) (sym c.body.ensures ∙ c.in_err-next.was))

pub returns : goal.returns
returns c =
    let a = c.args in page_read a.s.now a.had a.at _ (omega (arith, c.if-had-gt-MOST_PAGES.false)) (sym c.body.ensures ∙ c.in_ok-next.was)
