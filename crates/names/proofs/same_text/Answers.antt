-- `same_text` meets its contract. Assumes nothing.
use mathlib.Core.Path.{refl, sym, ◌∙◌}
use native.Mathlib.Numerals.{add-one}
use Rattle.names.specs.Names.{both, data_at}
use Rattle.names.proofs.Letters.{other_size, all_compared, same_byte, other_byte}
use native.Mathlib.Omega.{arith}
use Rattle.names.proofs.same_text.Goals as goal

pub returns-then-n-m : goal.returns-then-n-m
returns-then-n-m c =
    other_size (data_at (both c.args.pre.now c.args.body.now) c.args.o1 c.args.s1) (data_at (both c.args.pre.now c.args.body.now) c.args.o2 c.args.s2) (λ e. c.if-n-m.true (omega (arith, e, c.size_of-n.ensures, c.size_of-m.ensures)))

pub loop-i-init : goal.loop-i-init
loop-i-init c = refl

pub letter_of-requires : goal.letter_of-requires
letter_of-requires c = omega (arith, c.size_of-n.ensures)

pub letter_of-requires-in-loop-i : goal.letter_of-requires-in-loop-i
letter_of-requires-in-loop-i c = omega (arith, c.size_of-m.ensures, c.if-n-m.false)

pub returns-then-a-b : goal.returns-then-a-b
returns-then-a-b c =
    sym (sym c.loop-i.invariant ∙ other_byte (data_at (both c.args.pre.now c.args.body.now) c.args.o1 c.args.s1) (data_at (both c.args.pre.now c.args.body.now) c.args.o2 c.args.s2) c.size_of-n.result c.loop-i.i c.size_of-n.ensures (c.if-n-m.false ∙ c.size_of-m.ensures) c.loop-i-test.true _ _ (rw c.letter_of.ensures at c.lower-a.ensures) (rw c.letter_of-in-loop-i.ensures at c.lower-b.ensures) c.if-a-b.true)

pub loop-i-preserved : goal.loop-i-preserved
loop-i-preserved c =
    rw (add-one c.loop-i.i) (sym (same_byte (data_at (both c.args.pre.now c.args.body.now) c.args.o1 c.args.s1) (data_at (both c.args.pre.now c.args.body.now) c.args.o2 c.args.s2) c.size_of-n.result c.loop-i.i c.size_of-n.ensures (c.if-n-m.false ∙ c.size_of-m.ensures) c.loop-i-test.true _ _ (rw c.letter_of.ensures at c.lower-a.ensures) (rw c.letter_of-in-loop-i.ensures at c.lower-b.ensures) c.if-a-b.false) ∙ c.loop-i.invariant)

pub returns : goal.returns
returns c =
    sym (all_compared (data_at (both c.args.pre.now c.args.body.now) c.args.o1 c.args.s1) (data_at (both c.args.pre.now c.args.body.now) c.args.o2 c.args.s2) c.size_of-n.result c.loop-i.i c.size_of-n.ensures (c.if-n-m.false ∙ c.size_of-m.ensures) c.loop-i-test.false) ∙ c.loop-i.invariant
