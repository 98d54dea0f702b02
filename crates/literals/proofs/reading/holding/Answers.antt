use Rattle.literals.proofs.Standing.{solid_body, ends_solid}
use Rattle.literals.proofs.Finding.{body_fits, holding_found}
use mathlib.Core.Path.{refl, sym, ◌∙◌}
use native.Mathlib.Omega.{arith}
use Rattle.literals.proofs.reading.holding.Goals as goal

pub span_of-end-requires : goal.span_of-end-requires
span_of-end-requires c = (c.requires.0, c.requires.1, ends_solid _ _ _ c.past_comments-open.ensures c.requires.2)

pub overflow_add-start : goal.overflow_add-start
overflow_add-start c =
    let e = sym (solid_body _ c.args.next _ c.past_comments-open.ensures) ∙ c.span_of-end.ensures.0 in
    let f = body_fits c.args.b.now c.args.next _ _ refl e in
    omega (arith, f.0, f.1, c.past_comments-open.ensures, c.requires.0)

pub word-requires : goal.word-requires
word-requires c =
    let e = sym (solid_body _ c.args.next _ c.past_comments-open.ensures) ∙ c.span_of-end.ensures.0 in
    let f = body_fits c.args.b.now c.args.next _ _ refl e in
    omega (arith, f.0, f.1, c.past_comments-open.ensures, c.requires.0)

pub overflow_sub-end : goal.overflow_sub-end
overflow_sub-end c =
    let e = sym (solid_body _ c.args.next _ c.past_comments-open.ensures) ∙ c.span_of-end.ensures.0 in
    let f = body_fits c.args.b.now c.args.next _ _ refl e in
    omega (arith, f.0)

pub overflow_sub-end-2 : goal.overflow_sub-end-2
overflow_sub-end-2 c =
    let e = sym (solid_body _ c.args.next _ c.past_comments-open.ensures) ∙ c.span_of-end.ensures.0 in
    let f = body_fits c.args.b.now c.args.next _ _ refl e in
    omega (arith, f.0, c.past_comments-open.ensures)

pub word-requires-2 : goal.word-requires-2
word-requires-2 c =
    let e = sym (solid_body _ c.args.next _ c.past_comments-open.ensures) ∙ c.span_of-end.ensures.0 in
    let f = body_fits c.args.b.now c.args.next _ _ refl e in
    omega (arith, f.1, c.requires.0)

pub returns : goal.returns
returns c =
    let e = sym (solid_body _ c.args.next _ c.past_comments-open.ensures) ∙ c.span_of-end.ensures.0 in
    (holding_found _ _ _ _ _ refl _ _ _ _ e c.past_comments-open.ensures c.word.ensures c.word-2.ensures c.found.ensures, c.span_of-end.ensures.1)
