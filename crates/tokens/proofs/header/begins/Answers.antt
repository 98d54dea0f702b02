-- `header::begins` meets its contract: the bytes are those of the definition. Assumes nothing.
use mathlib.Core.Path.{◌∙◌}
use Rattle.tokens.proofs.HeaderTest.{front}
use Rattle.tokens.specs.Format.{header}
use Rattle.tokens.proofs.header.begins.Goals as goal

pub returns : goal.returns
unfolding header
returns c = c.starts_with.ensures.value ∙ front _ _
