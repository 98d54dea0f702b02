use Rattle.tokens.specs.Token.{token_at, token_of}
use Prim.Native.Nat.{◌+◌}
use borrow.Author.Tests.{le-ltb, lt-ltb}
use Rattle.passing.proofs.Knowing.{stands, number_pair, operator_pair}
use lib.ListN.{length, get_or}
use native.Mathlib.Omega.{arith}
use Rattle.passing.proofs.known.form.Goals as goal

pub bounds-s-at : goal.bounds-s-at
bounds-s-at c = stands c.args.s.now c.args.at c.requires

pub overflow_add-at : goal.overflow_add-at
overflow_add-at c = omega (arith, number_pair c.args.s.now c.args.at c.requires c.if-b-lt128.true, c.well_formed)

pub bounds-s-at-then-b-lt128 : goal.bounds-s-at-then-b-lt128
bounds-s-at-then-b-lt128 c = number_pair c.args.s.now c.args.at c.requires c.if-b-lt128.true

pub overflow_add-result : goal.overflow_add-result
overflow_add-result c = omega (arith, number_pair c.args.s.now c.args.at c.requires c.if-b-lt128.true, c.well_formed)

pub returns-then-b-lt128 : goal.returns-then-b-lt128
unfolding token_at token_of
returns-then-b-lt128 c =
    simp (lt-ltb c.args.at (length c.args.s.now) (stands c.args.s.now c.args.at c.requires), lt-ltb (get_or c.args.s.now c.args.at 0) 128 c.if-b-lt128.true, lt-ltb (c.args.at + 1) (length c.args.s.now) (number_pair c.args.s.now c.args.at c.requires c.if-b-lt128.true), c.short15.ensures)

pub overflow_add-result-then-b-lt160 : goal.overflow_add-result-then-b-lt160
overflow_add-result-then-b-lt160 c = omega (arith, stands c.args.s.now c.args.at c.requires, c.well_formed)

pub returns-then-b-lt160 : goal.returns-then-b-lt160
unfolding token_at token_of
returns-then-b-lt160 c =
    simp (lt-ltb c.args.at (length c.args.s.now) (stands c.args.s.now c.args.at c.requires), le-ltb (get_or c.args.s.now c.args.at 0) 128 c.if-b-lt128.false, lt-ltb (get_or c.args.s.now c.args.at 0) 160 c.if-b-lt160.true, c.low5.ensures)

pub overflow_add-at-then-b-lt192 : goal.overflow_add-at-then-b-lt192
overflow_add-at-then-b-lt192 c =
    omega (arith, operator_pair c.args.s.now c.args.at c.requires c.if-b-lt160.false (omega (arith, c.if-b-lt192.true)), c.well_formed)

pub bounds-s-at-then-b-lt192 : goal.bounds-s-at-then-b-lt192
bounds-s-at-then-b-lt192 c = operator_pair c.args.s.now c.args.at c.requires c.if-b-lt160.false (omega (arith, c.if-b-lt192.true))

pub overflow_add-result-then-b-lt192 : goal.overflow_add-result-then-b-lt192
overflow_add-result-then-b-lt192 c =
    omega (arith, operator_pair c.args.s.now c.args.at c.requires c.if-b-lt160.false (omega (arith, c.if-b-lt192.true)), c.well_formed)

pub returns-then-b-lt192 : goal.returns-then-b-lt192
unfolding token_at token_of
returns-then-b-lt192 c =
    simp (lt-ltb c.args.at (length c.args.s.now) (stands c.args.s.now c.args.at c.requires), le-ltb (get_or c.args.s.now c.args.at 0) 128 c.if-b-lt128.false, le-ltb (get_or c.args.s.now c.args.at 0) 160 c.if-b-lt160.false, lt-ltb (get_or c.args.s.now c.args.at 0) 192 (omega (arith, c.if-b-lt192.true)), lt-ltb (c.args.at + 1) (length c.args.s.now) (operator_pair c.args.s.now c.args.at c.requires c.if-b-lt160.false (omega (arith, c.if-b-lt192.true))), c.op_number.ensures)

pub returns : goal.returns
returns c = (stands c.args.s.now c.args.at c.requires, omega (arith, c.if-b-lt192.false))
