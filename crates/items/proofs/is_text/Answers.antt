-- `is_text` meets its contract. Assumes nothing.
use Rattle.items.specs.Tokens.{writable}
use Rattle.items.proofs.Judging.{text_named, text_unnamed}
use Rattle.items.proofs.is_text.Goals as goal

pub returns-then-named : goal.returns-then-named
unfolding writable
returns-then-named c = rw (text_named c.args.named _ c.if-named.true) c.is_name.ensures

pub returns-else-named : goal.returns-else-named
unfolding writable
returns-else-named c = rw (text_unnamed c.args.named _ c.if-named.false) c.all_obey.ensures
