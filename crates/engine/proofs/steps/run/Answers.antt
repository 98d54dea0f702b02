-- `steps::run` meets its contract. Assumes nothing.
use Rattle.spans.proofs.SpanTurns.{none_noted}
use Rattle.engine.proofs.steps.run.Goals as goal

pub run_noting-requires : goal.run_noting-requires
run_noting-requires c =
    (c.requires.0, c.requires.1, c.requires.2, record { in_pre = none_noted _; in_body = none_noted _ }, c.requires.3)
