-- `numbers::wholes::times` meets its contract: signs that differ make a product below zero. Assumes nothing.
use mathlib.Core.Path.{refl}
use native.Mathlib.Omega.{arith}
use Rattle.numbers.proofs.Signs.{signed_mul}
use Rattle.numbers.proofs.wholes.times.Goals as goal

pub unlike-requires : goal.unlike-requires
unlike-requires c = tt

pub overflow_mul-result : goal.overflow_mul-result
overflow_mul-result c = omega arith

pub returns : goal.returns
returns c =
    let a = c.args in (rw c.unlike.ensures (signed_mul a.a.below a.b.below a.a.size a.b.size), refl)
