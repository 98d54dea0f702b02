-- `reading::read_back` meets its contract, test by test. Assumes nothing.
use Rattle.std.proofs.lemmas.Result.{err_from_is_err_and}
use mathlib.Core.Path.{sym, ◌∙◌}
use native.Mathlib.Omega.{arith}
use Rattle.back.proofs.Answering.{Sounds, end_long, end_header, end_broken, end_list, end_text, end_holds, end_done}
use Rattle.back.proofs.reading.read_back.Goals as goal
use Rattle.back.proofs.reading.read_back.Goals.{In_ok-survey, then-list-survey-via-then-list-survey, then-list-survey-via-else-list-survey+then-text-survey}

sounds : (c : In_ok-survey) → Sounds c.args.s.now c.in_ok-survey.survey.count c.in_ok-survey.survey.texts
sounds c = record { small = omega arith; headed = sym c.begins.ensures ∙ c.if-not-begins.false; surveyed = sym c.in_ok-survey.was ∙ c.survey_of.ensures }

pub returns-then-s-gt-LONGEST : goal.returns-then-s-gt-LONGEST
returns-then-s-gt-LONGEST c =
    let a = c.args in rw c.met_at.ensures (end_long a.s.now a.list.now a.text.now (omega arith))

pub returns-then-not-begins : goal.returns-then-not-begins
returns-then-not-begins c =
    let a = c.args in rw c.met_at-then-not-begins.ensures (end_header a.s.now a.list.now a.text.now (omega arith) (sym c.begins.ensures ∙ c.if-not-begins.true))

pub returns-in_err-survey : goal.returns-in_err-survey
returns-in_err-survey c =
    let a = c.args in
    let p = err_from_is_err_and c.from_residual.result c.from_residual.ensures.1 in
    rw (p.1, p.2) (end_broken a.s.now a.list.now a.text.now (omega arith) (sym c.begins.ensures ∙ c.if-not-begins.false)
    (sym c.in_err-survey.was ∙ c.survey_of.ensures))

pub returns-then-list-survey : goal.returns-then-list-survey
returns-then-list-survey c =
    let a = c.args in let k = sounds (goal.at.returns-then-list-survey c).In_ok-survey in rw c.met_at-then-list-survey.ensures (elim c.then-list-survey.branch [
      | then-list-survey-via-then-list-survey w ↦ end_list a.s.now a.list.now a.text.now k (omega (arith, w.if-list-survey.true))
      | then-list-survey-via-else-list-survey+then-text-survey w ↦ end_text a.s.now a.list.now a.text.now k w.if-text-survey.true
    ])

pub fill_tables-requires : goal.fill_tables-requires
fill_tables-requires c =
    let a = c.args in (
      omega arith,
      end_holds a.s.now a.list.now a.text.now (sounds (goal.at.fill_tables-requires c).In_ok-survey) (omega (arith, c.if-list-survey.false))
          c.if-text-survey.false,
    )

pub returns : goal.returns
returns c =
    let a = c.args in end_done a.s.now a.list.now a.text.now (sounds (goal.at.returns c).In_ok-survey) (omega arith) (omega arith) c.fill_tables.ensures
