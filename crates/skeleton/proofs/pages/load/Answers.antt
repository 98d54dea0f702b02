-- `pages::load` meets its promise: the length, then the skeleton. Assumes nothing.
use Rattle.std.specs.Prelude.{Err}
use mathlib.Core.Path.{ap, ◌∙◌}
use native.Mathlib.Omega.{arith}
use lib.ListN.{length}
use borrow.Author.Tests.{lt-leb, le-leb}
use Rattle.tokens.specs.Format.{longest}
use Rattle.machine.specs.Promise.{load_answer}
use Rattle.skeleton.proofs.pages.load.Goals as goal

pub returns-then-s-gt-LONGEST : goal.returns-then-s-gt-LONGEST
unfolding load_answer
returns-then-s-gt-LONGEST c =
    let s = c.args.s.now in record { answer = ap Err c.met_at.ensures ∙ rw (lt-leb (length s) longest (omega (arith, c.if-s-gt-LONGEST.true))) }

pub returns : goal.returns
unfolding load_answer
returns c =
    let s = c.args.s.now in record { answer = c.survey.ensures.answer ∙ rw (le-leb (length s) longest (omega (arith, c.if-s-gt-LONGEST.false))) }
