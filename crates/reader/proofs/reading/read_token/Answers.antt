-- `reading::read_token` meets its contract: by the form. Assumes nothing.
use mathlib.Core.Path.{sym, ap, ◌∙◌}
use Rattle.std.specs.Prelude.{Ok, Err}
use Rattle.std.proofs.lemmas.Result.{err_from_is_err_and}
use Rattle.numbers.specs.declared.Number as number
use Rattle.tokens.specs.declared.Form.TheVariants.{Number, Operator, Sequence}
use Rattle.tokens.specs.declared.Read.TheVariants as read
use Rattle.tokens.specs.Passing.{Shows}
use Rattle.tokens.proofs.OnePiece.{sequence_is}
use Rattle.reader.proofs.reading.read_token.Goals as goal

pub returns-in_default : goal.returns-in_default
returns-in_default c = ap Err c.met_at.ensures ∙ sym c.in_default.ensures

pub returns-in-Number : goal.returns-in-Number
returns-in-Number c =
    let a = c.args in
    let g : Shows a.s.now a.at (Number c.in-Number.raw c.in-Number.next) = rw c.in-Number.is at c.in-Some.ensures in
    ap (λ (v : number.Number). Ok (read.Number v c.in-Number.next)) c.short_value.ensures ∙ sym g

pub returns-in-Operator : goal.returns-in-Operator
returns-in-Operator c =
    let a = c.args in
    let g : Shows a.s.now a.at (Operator c.in-Operator.number c.in-Operator.next) = rw c.in-Operator.is at c.in-Some.ensures in
    sym g

pub sequence_at-requires : goal.sequence_at-requires
sequence_at-requires c =
    let a = c.args in
    let g : Shows a.s.now a.at Sequence = rw c.in-Sequence.is at c.in-Some.ensures in
    g.0

pub returns-in_ok-sequence_at-in-Sequence : goal.returns-in_ok-sequence_at-in-Sequence
returns-in_ok-sequence_at-in-Sequence c =
    let a = c.args in
    let g : Shows a.s.now a.at Sequence = rw c.in-Sequence.is at c.in-Some.ensures in
    sym c.in_ok-sequence_at-in-Sequence.was ∙ c.sequence_at.ensures ∙ sym (sequence_is a.s.now a.at g.0 g.1)

pub returns-in_err-sequence_at-in-Sequence : goal.returns-in_err-sequence_at-in-Sequence
returns-in_err-sequence_at-in-Sequence c =
    let a = c.args in
    let g : Shows a.s.now a.at Sequence = rw c.in-Sequence.is at c.in-Some.ensures in
    let p = err_from_is_err_and c.from_residual.result c.from_residual.ensures.1 in
    rw (p.1, p.2) (sym c.in_err-sequence_at-in-Sequence.was ∙ c.sequence_at.ensures ∙ sym (sequence_is a.s.now a.at g.0 g.1))
