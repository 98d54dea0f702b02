-- `frames::fill` meets its contract. Assumes nothing.
use borrow.Author.Rules.{rules}
use mathlib.Core.Path.{◌≡◌}
use native.Mathlib.Numerals.{add-one}
use Rattle.state.specs.Operations.{filled}
use native.Mathlib.Omega.{arith}
use Rattle.contexts.proofs.frames.fill.Goals as goal

pub loop-i-init : goal.loop-i-init
unfolding filled
loop-i-init c = search rules

pub loop-i-preserved : goal.loop-i-preserved
unfolding filled
loop-i-preserved c = (search rules, rw add-one (cc))

pub returns : goal.returns
returns c =
    let e : c.loop-i.i ≡ c.args.n = omega arith in rw (← e) c.loop-i.invariant.1
