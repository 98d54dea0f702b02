-- `frames::last_word` meets its contract. Assumes nothing.
use Prim.Native.Nat.{◌+◌}
use borrow.Author.Tests.{le-leb, lt-leb}
use mathlib.Core.Path.{◌∙◌, sym}
use native.Mathlib.Omega.{arith}
use Rattle.contexts.proofs.frames.last_word.Goals as goal

pub returns-then-owes : goal.returns-then-owes
returns-then-owes c = (omega arith, le-leb 4096 (4096 + c.args.frame) (omega arith) ∙ sym c.if-owes.true)

pub returns : goal.returns
returns c = (omega arith, lt-leb 4096 c.args.frame c.requires ∙ sym c.if-owes.false)
