-- `text_at` meets its contract. Assumes nothing.
use Rattle.items.specs.Judged.{entry_is}
use Rattle.items.proofs.Judging.{text_named, text_unnamed}
use Rattle.items.proofs.text_at.Goals as goal

pub returns-then-named : goal.returns-then-named
unfolding entry_is
returns-then-named c = λ x g. record { is = rw (text_named c.args.named _ c.if-named.true); good = g }

pub returns-else-named : goal.returns-else-named
unfolding entry_is
returns-else-named c = λ x g. record { is = rw (text_unnamed c.args.named _ c.if-named.false); good = g }
