-- `roles::one_of` meets its contract: none of the numbers before x is n, so the rest decides. Assumes nothing.
use mathlib.Core.Bool.{false, ◌||◌}
use mathlib.Core.List.{List}
use mathlib.Core.Path.{◌≡◌, refl, sym}
use Prim.Native.Nat.{ℕ, ◌+◌, ◌<◌}
use native.Mathlib.Numerals.{add-one}
use native.Mathlib.Omega.{arith}
use lib.Seq.{drop-cons, drop-length}
use lib.ListN.{length, get_or, drop}
use lib.Dec.{eqb}
use borrow.Author.Tests.{eq-eqb, ne_eqb}
use Rattle.machine.specs.Skeleton.{one_of}
use Rattle.nesting.proofs.roles.one_of.Goals as goal

step : (l : List ℕ) (n i : ℕ) → i < length l → one_of (drop i l) n ≡ eqb n (get_or l i 0) || one_of (drop (i + 1) l) n
unfolding one_of
step l n i h = rw (drop-cons l i 0, add-one)

none : (l : List ℕ) (n : ℕ) → one_of (drop (length l) l) n ≡ false
unfolding one_of
none l n = rw drop-length

pub loop-x-init : goal.loop-x-init
loop-x-init c = refl

pub returns-then-x-n : goal.returns-then-x-n
returns-then-x-n c =
    let a = c.args in
    let i : ℕ = c.loop-x.x-index in
    rw (step a.list.now a.n i (omega arith), eq-eqb a.n (get_or a.list.now i 0) (sym c.if-x-n.true)) at c.loop-x.invariant

pub loop-x-preserved : goal.loop-x-preserved
loop-x-preserved c =
    let a = c.args in
    let i : ℕ = c.loop-x.x-index in
    rw (step a.list.now a.n i (omega arith), ne_eqb a.n (get_or a.list.now i 0) (λ e. c.if-x-n.false (sym e))) at c.loop-x.invariant

pub returns : goal.returns
returns c =
    let a = c.args in
    let e : c.loop-x.x-index ≡ length a.list.now = omega arith in
    rw (e, none) at c.loop-x.invariant
