-- `reckon` meets its contract. Assumes nothing.
use native.Mathlib.Omega.{arith}
use mathlib.Core.Path.{refl}
use Rattle.machine.specs.Operators.{op_of}
use Rattle.sprints.proofs.Level.{flat_undone, flat_fails}
use Rattle.sprints.proofs.Swiftly.{gives_number, fails_number, sums_two, plain_flat}
use Rattle.state.proofs.Stacking.{tops_fit}
use Rattle.effects.proofs.Executing.{busy_lower, plain_effect}
use Rattle.effects.proofs.Acting.{is_gives}
use Rattle.sprints.proofs.reckon.Goals as goal

pub returns-then-t-lt2 : goal.returns-then-t-lt2
returns-then-t-lt2 c = λ code. flat_undone _ (omega arith)

pub overflow_sub-q : goal.overflow_sub-q
overflow_sub-q c = tops_fit _ _ _ _ c.tops-t.ensures c.if-t-lt2.false

pub push_number-requires : goal.push_number-requires
push_number-requires c = busy_lower 2 c.requires.0 refl

pub returns-in-Ok : goal.returns-in-Ok
returns-in-Ok c =
    λ code. plain_flat code _ 2 (op_of c.args.n) _ c.requires.0 refl (sums_two _ c.requires.1) c.tops-t.ensures _ _ _ c.if-t-lt2.false c.value_of.ensures c.value_of-2.ensures (gives_number _ _ _ _ _ _ _ c.in-Ok.is c.in-Number.is c.in-Number-value_of.is c.two_numbers.ensures) refl (is_gives code _ _ refl c.push_number.ensures) _ refl c.height_of.ensures

pub returns-in-Err : goal.returns-in-Err
returns-in-Err c =
    λ code. flat_fails code _ (plain_effect code _ 2 (op_of c.args.n) _ c.requires.0 refl (sums_two _ c.requires.1) c.tops-t.ensures _ _ _ c.if-t-lt2.false c.value_of.ensures c.value_of-2.ensures (fails_number _ _ _ _ _ _ c.in-Err.is c.in-Number.is c.in-Number-value_of.is c.two_numbers.ensures))

pub returns-in_default-value_of : goal.returns-in_default-value_of
returns-in_default-value_of c = λ code. flat_undone _ (omega arith)

pub returns-in_default : goal.returns-in_default
returns-in_default c = λ code. flat_undone _ (omega arith)
