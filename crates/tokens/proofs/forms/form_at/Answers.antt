-- `forms::form_at` meets its contract: the first byte's classes in the definition's order. Assumes nothing.
use Prim.Native.Nat.{◌+◌}
use lib.ListN.{length, get_or}
use Rattle.tokens.specs.Token.{token_at, token_of}
use borrow.Author.Tests.{le-ltb, lt-ltb}
use native.Mathlib.Omega.{arith}
use Rattle.tokens.proofs.forms.form_at.Goals as goal

pub returns-then-s-at : goal.returns-then-s-at
unfolding token_at token_of
returns-then-s-at c =
    let a = c.args in simp (le-ltb a.at (length a.s.now) (omega arith))

pub returns-then-s-at-lt2 : goal.returns-then-s-at-lt2
unfolding token_at token_of
returns-then-s-at-lt2 c =
    let a = c.args in simp (lt-ltb a.at (length a.s.now) (omega arith), lt-ltb (get_or a.s.now a.at 0) 128 (omega arith), le-ltb (a.at + 1) (length a.s.now) (omega arith))

pub returns-then-class-lt4 : goal.returns-then-class-lt4
unfolding token_at token_of
returns-then-class-lt4 c =
    let a = c.args in simp (lt-ltb a.at (length a.s.now) (omega arith), lt-ltb (get_or a.s.now a.at 0) 128 (omega arith), lt-ltb (a.at + 1) (length a.s.now) (omega arith), c.short15.ensures)

pub returns-then-class-eq4 : goal.returns-then-class-eq4
unfolding token_at token_of
returns-then-class-eq4 c =
    let a = c.args in simp (lt-ltb a.at (length a.s.now) (omega arith), le-ltb (get_or a.s.now a.at 0) 128 (omega arith), lt-ltb (get_or a.s.now a.at 0) 160 (omega arith), c.low5.ensures)

pub returns-then-s-at-lt2-2 : goal.returns-then-s-at-lt2-2
unfolding token_at token_of
returns-then-s-at-lt2-2 c =
    let a = c.args in simp (lt-ltb a.at (length a.s.now) (omega arith), le-ltb (get_or a.s.now a.at 0) 128 (omega arith), le-ltb (get_or a.s.now a.at 0) 160 (omega arith), lt-ltb (get_or a.s.now a.at 0) 192 (omega arith), le-ltb (a.at + 1) (length a.s.now) (omega arith))

pub returns-then-class-eq5 : goal.returns-then-class-eq5
unfolding token_at token_of
returns-then-class-eq5 c =
    let a = c.args in simp (lt-ltb a.at (length a.s.now) (omega arith), le-ltb (get_or a.s.now a.at 0) 128 (omega arith), le-ltb (get_or a.s.now a.at 0) 160 (omega arith), lt-ltb (get_or a.s.now a.at 0) 192 (omega arith), lt-ltb (a.at + 1) (length a.s.now) (omega arith), c.op_number.ensures)
