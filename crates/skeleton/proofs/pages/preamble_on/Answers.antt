-- `pages::preamble_on` meets its contract: the preamble, then the pages. Assumes nothing.
use Rattle.std.proofs.lemmas.Result.{err_from_is_err_and}
use mathlib.Core.Path.{sym, ◌∙◌}
use native.Mathlib.Omega.{arith}
use Rattle.machine.specs.Limits.{most_open}
use Rattle.machine.proofs.Bodies.{body_long}
use Rattle.skeleton.proofs.PageTurns.{preamble_read, preamble_bad}
use Rattle.skeleton.proofs.pages.preamble_on.Goals as goal

pub returns-in_err-next : goal.returns-in_err-next
returns-in_err-next c =
    let p = err_from_is_err_and c.from_residual.result c.from_residual.ensures.1 in
    rw (p.1, p.2) (preamble_bad _ _ _ _ (sym c.body.ensures ∙ c.in_err-next.was))

pub note-requires : goal.note-requires
note-requires c =
    (omega (arith, c.requires), rw c.past_comments.ensures (body_long most_open _ _ _ (sym c.body.ensures ∙ c.in_ok-next.was)))

pub returns : goal.returns
returns c =
    let e = sym c.body.ensures ∙ c.in_ok-next.was in
    preamble_read _ _ c.args.places.now _ c.args.at _ _ c.requires e (rw c.past_comments.ensures at c.note.ensures) c.pages.ensures
