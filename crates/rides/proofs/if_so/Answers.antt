use mathlib.Core.List.{[]}
use mathlib.Core.Path.{refl}
use Rattle.state.proofs.Stacking.{tops_fit}
use Rattle.rides.proofs.Holding.{if_few, if_fails, if_passes, if_enters}
use Rattle.rides.proofs.if_so.Goals as goal

pub returns-then-t-lt1 : goal.returns-then-t-lt1
returns-then-t-lt1 c =
    ((if_few [] 0 0 _ c.requires.0 c.tops-t.ensures c.if-t-lt1.true refl).busy, λ code eb. if_few code _ _ _ c.requires.0 c.tops-t.ensures c.if-t-lt1.true refl)

pub overflow_sub-q : goal.overflow_sub-q
overflow_sub-q c = tops_fit _ _ _ _ c.tops-t.ensures c.if-t-lt1.false

pub returns-then-i-eq0 : goal.returns-then-i-eq0
returns-then-i-eq0 c =
    ((if_passes [] 0 0 _ c.requires.0 c.tops-t.ensures c.if-t-lt1.false _ c.value_of-x.ensures _ c.cardinal.ensures.0 _ c.in-Some.is _ refl c.if-i-eq0.true refl).busy, λ code eb. if_passes code _ _ _ c.requires.0 c.tops-t.ensures c.if-t-lt1.false _ c.value_of-x.ensures _ c.cardinal.ensures.0 _ c.in-Some.is _ refl c.if-i-eq0.true refl)

pub returns-in_default : goal.returns-in_default
returns-in_default c =
    ((if_fails [] 0 0 _ c.requires.0 c.tops-t.ensures c.if-t-lt1.false _ c.value_of-x.ensures _ c.cardinal.ensures.0 c.in_default.is refl).busy, λ code eb. if_fails code _ _ _ c.requires.0 c.tops-t.ensures c.if-t-lt1.false _ c.value_of-x.ensures _ c.cardinal.ensures.0 c.in_default.is refl)

pub returns : goal.returns
returns c =
    (c.enter_if.ensures.0, λ code eb. if_enters code _ _ _ c.requires.0 c.tops-t.ensures c.if-t-lt1.false _ c.value_of-x.ensures _ c.cardinal.ensures.0 _ c.in-Some.is _ refl c.if-i-eq0.false (c.enter_if.ensures.1 code eb))
